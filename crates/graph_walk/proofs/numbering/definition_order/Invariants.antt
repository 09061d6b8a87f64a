use Rattle.std.proofs.Common.{[]}
use Rattle.graph_walk.specs.Marks.{weight}
use Rattle.graph_walk.specs.Waiting.{numbers_in}
use Rattle.graph_walk.proofs.Awaiting.{Awaits}
use Rattle.graph_walk.proofs.numbering.definition_order.Given as goal

abbrev pub invariant-loop-node : goal.invariant-loop-node
invariant-loop-node l = Awaits l.links l.definitions l.done.items l.order l.counts.items (numbers_in l.ready)

abbrev pub decreases-loop-node : goal.decreases-loop-node
decreases-loop-node l = weight [] l.done.items
