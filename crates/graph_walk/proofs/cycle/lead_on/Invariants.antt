use Rattle.std.proofs.Common.{◌+◌, [], length}
use Rattle.graph_walk.specs.Marks.{weight}
use Rattle.graph_walk.proofs.Reaching.{Reaches}
use Rattle.graph_walk.proofs.cycle.lead_on.Given as goal

abbrev pub invariant-loop-node : goal.invariant-loop-node
invariant-loop-node l = Reaches l.links l.from l.fn.flags l.flags l.todo

abbrev pub decreases-loop-node : goal.decreases-loop-node
decreases-loop-node l = weight [] l.flags + length l.todo
