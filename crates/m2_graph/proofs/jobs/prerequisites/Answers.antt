use Rattle.m2_graph.proofs.Places.{numbers_below}
use Rattle.m2_graph.proofs.jobs.prerequisites.Goals as goal

pub each_once-requires-clause-within : goal.each_once-requires-clause-within
each_once-requires-clause-within c = numbers_below c.args.places.now c.args.nodes.now c.in_ok-numbers.numbers _ _
    c.requires.below c.in_ok-numbers.ensures c.as_slice.ensures
