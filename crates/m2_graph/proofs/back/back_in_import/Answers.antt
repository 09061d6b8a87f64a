use Rattle.m2_graph.specs.Program.{modules_of}
use Rattle.m2_graph.proofs.LeadingBack.{back_of_names}
use Rattle.m2_graph.proofs.back.back_in_import.Goals as goal

pub returns-in-None : goal.returns-in-None
returns-in-None c = back_of_names (modules_of c.args.program.now) c.args.node c.args.import.now.from
    c.args.import.now.names _ _ c.in-None.is c.as_slice.ensures c.back_in_names-in-None.ensures
