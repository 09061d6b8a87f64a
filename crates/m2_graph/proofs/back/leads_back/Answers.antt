use Rattle.m2_graph.specs.Program.{modules_of}
use Rattle.m2_graph.proofs.LeadingBack.{back_none}
use Rattle.m2_graph.proofs.back.leads_back.Goals as goal

pub returns-in-None : goal.returns-in-None
returns-in-None c = back_none (modules_of c.args.program.now) c.args.node c.args.ident.now c.in-None.ensures
