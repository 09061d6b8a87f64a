use Rattle.graph_walk.proofs.Turning.{Turns}
use Rattle.graph_walk.proofs.reversal.reverse_links.Given as goal

abbrev pub invariant-loop-node : goal.invariant-loop-node
invariant-loop-node l = Turns l.links l.node l.back.items
