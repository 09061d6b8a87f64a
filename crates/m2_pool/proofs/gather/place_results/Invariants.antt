use Rattle.std.proofs.Common.{◌≡◌, ◌++◌, ◌<◌, ℕ, length, map, get_or, None}
use Rattle.std.specs.Prelude.{MatchOption, MatchResult}
use Rattle.std.specs.Vec.Iter.{into_iter_items, into_iter_len}
use Rattle.once_cell.specs.Once.{cell_name}
use Rattle.pool_board.specs.Lists.{times}
use Rattle.pool_board.specs.Results.{IsRan, IsMade}
use Rattle.m2_pool.proofs.gather.place_results.Given as goal

abbrev pub invariant-loop-ran : goal.invariant-loop-ran
invariant-loop-ran g l = record {
  rest_is : l.yielded ++ into_iter_items l.ran-iterator ≡ l.fn.all.items;
  length_is : into_iter_len l.ran-iterator ≡ length (into_iter_items l.ran-iterator);
  count_is : length l.places.items ≡ length l.pool.graph.now;
  each : (k : ℕ) → k < length l.pool.graph.now
      → MatchOption (get_or l.places.items k None) (times k (map (λ r. r.job) l.yielded) ≡ 0)
      (λ r. (r.job ≡ k) × MatchResult r.kept
      (λ n. IsRan (map cell_name l.pool.cells.now) l.pool.graph.now (g.W.Work.defines l.pool.work.now) r.job n.cell
      n.known (map (λ u. u.cell) r.used.items) (map (λ u. u.known) r.used.items))
      (λ b. IsMade (map cell_name l.pool.cells.now) l.pool.graph.now (g.W.Work.defines l.pool.work.now) r.job b.value
      (map (λ u. u.cell) r.used.items) (map (λ u. u.known) r.used.items)));
}
