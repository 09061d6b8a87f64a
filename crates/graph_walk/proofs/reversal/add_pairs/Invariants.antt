use Rattle.std.proofs.Common.{take}
use Rattle.graph_walk.specs.Turned.{Gathers}
use Rattle.graph_walk.proofs.reversal.add_pairs.Given as goal

abbrev pub invariant-loop-node : goal.invariant-loop-node
invariant-loop-node l = Gathers (take l.node-index l.nodes) l.to l.initial.rows l.rows
