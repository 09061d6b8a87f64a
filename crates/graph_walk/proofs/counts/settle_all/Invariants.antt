use Rattle.std.proofs.Common.{take}
use Rattle.graph_walk.specs.Waiting.{numbers_in, Settles}
use Rattle.graph_walk.proofs.counts.settle_all.Given as goal

abbrev pub invariant-loop-node : goal.invariant-loop-node
invariant-loop-node l = Settles l.definitions l.done (take l.node-index l.nodes) l.initial.counts
    (numbers_in l.initial.ready) l.counts (numbers_in l.ready)
