use Rattle.std.proofs.Common.{length}
use Rattle.graph_walk.proofs.Sweeping.{Swept}
use Rattle.graph_walk.proofs.cycle.cyclic.Given as goal

abbrev pub invariant-loop-node : goal.invariant-loop-node
invariant-loop-node l = Swept l.links l.fn.order l.left l.led.items l.flags.items

abbrev pub decreases-loop-node : goal.decreases-loop-node
decreases-loop-node l = length l.left
