use Rattle.m2_graph.specs.Program.{modules_of}
use Rattle.m2_graph.proofs.LeadingBack.{pairs_nodes}
use Rattle.m2_graph.proofs.numbering.numbering_of.Goals as goal

pub definition_order-requires-clause-nodes : goal.definition_order-requires-clause-nodes
definition_order-requires-clause-nodes c = pairs_nodes (modules_of c.args.program.now) c.args.pairs.now c.requires.links
