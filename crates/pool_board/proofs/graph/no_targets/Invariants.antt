use Rattle.std.proofs.Common.{◌≡◌, [], map, replicate}
use Rattle.pool_board.proofs.graph.no_targets.Given as goal

abbrev pub invariant-loop : goal.invariant-loop
invariant-loop l = map (λ v. v.items) l.table.items ≡ replicate l.counter []
