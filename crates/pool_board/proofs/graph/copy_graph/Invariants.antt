use Rattle.std.proofs.Common.{◌≡◌, map, take}
use Rattle.pool_board.proofs.graph.copy_graph.Given as goal

abbrev pub invariant-loop-list : goal.invariant-loop-list
invariant-loop-list l = map (λ v. v.items) l.lists.items ≡ map (λ v. v.items) (take l.list-index l.jobs)
