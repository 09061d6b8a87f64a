use Rattle.m2_graph.specs.Program.{modules_of}
use Rattle.m2_graph.proofs.Deciding.{starts_within}
use Rattle.m2_graph.proofs.given.starts_of.Goals as goal

pub start_order-requires-clause-within : goal.start_order-requires-clause-within
start_order-requires-clause-within c = starts_within (modules_of c.args.program.now) c.in_ok-walked.walked.items
    c.deref.result.now c.args.first c.requires.program c.in_ok-walked.ensures.value c.deref.ensures.value
