use Rattle.m2_graph.specs.Program.{modules_of}
use Rattle.m2_graph.proofs.LeadingBack.{pairs_nodes, none_found}
use Rattle.m2_graph.proofs.back.cycle_of.Goals as goal

pub first_on_cycle-requires-clause-nodes : goal.first_on_cycle-requires-clause-nodes
first_on_cycle-requires-clause-nodes c = pairs_nodes (modules_of c.args.program.now) c.args.pairs.now c.requires.links

pub returns-in-None-clause-cycles : goal.returns-in-None-clause-cycles
returns-in-None-clause-cycles c = none_found (modules_of c.args.program.now) c.args.pairs.now c.in_ok-first.first
    c.requires.links c.in_ok-first.ensures.found c.in-None.is
