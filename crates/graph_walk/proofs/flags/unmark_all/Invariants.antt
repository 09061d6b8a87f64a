use Rattle.std.proofs.Common.{take}
use Rattle.graph_walk.specs.Marks.{Unmarks}
use Rattle.graph_walk.proofs.flags.unmark_all.Given as goal

abbrev pub invariant-loop-node : goal.invariant-loop-node
invariant-loop-node l = Unmarks (take l.node-index l.nodes) l.initial.flags l.flags
