use Rattle.std.proofs.Common.{◌≡◌, ℕ, ◌<◌, [], map, length, get_or, take}
use Rattle.pool_board.specs.Graph.{naming_from}
use Rattle.pool_board.proofs.graph.all_targets.Given as goal

abbrev pub invariant-loop-job : goal.invariant-loop-job
invariant-loop-job l = record {
  count : length l.table.items ≡ length l.prerequisites;
  rows : (p : ℕ) → p < length l.prerequisites
      → get_or (map (λ v. v.items) l.table.items) p []
      ≡ naming_from 0 (take l.job (map (λ v. v.items) l.prerequisites)) p;
}
