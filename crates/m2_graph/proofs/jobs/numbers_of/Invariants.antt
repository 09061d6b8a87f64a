use Rattle.std.proofs.Common.{◌≡◌, take}
use Rattle.std.specs.List.{filter_map}
use Rattle.m2_graph.specs.Jobs.{place_of}
use Rattle.m2_graph.proofs.jobs.numbers_of.Given as goal

abbrev pub invariant-loop-node : goal.invariant-loop-node
invariant-loop-node l = l.numbers ≡ filter_map (place_of l.places) (take l.node-index l.nodes)
