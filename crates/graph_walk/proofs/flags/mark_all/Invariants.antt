use Rattle.std.proofs.Common.{take}
use Rattle.graph_walk.specs.Marks.{Marks}
use Rattle.graph_walk.proofs.flags.mark_all.Given as goal

abbrev pub invariant-loop-node : goal.invariant-loop-node
invariant-loop-node l = Marks (take l.node-index l.nodes) l.initial.flags l.initial.todo l.flags l.todo
