use Rattle.std.proofs.Common.{◌≡◌, ◌++◌, map, length, All}
use Rattle.std.specs.Prelude.{MatchResult}
use Rattle.std.specs.Vec.Iter.{into_iter_items, into_iter_len}
use Rattle.once_cell.specs.Once.{cell_name}
use Rattle.pool_board.specs.Seats.{SeatState, IsWorked, all_had}
use Rattle.pool_board.specs.Results.{IsRan, IsMade}
use Rattle.m2_pool.proofs.run.return_result.Given as goal

abbrev pub invariant-loop-one : goal.invariant-loop-one
invariant-loop-one g l = record {
  rest_is : l.yielded ++ into_iter_items l.one-iterator ≡ l.fn.ended.items;
  length_is : into_iter_len l.one-iterator ≡ length (into_iter_items l.one-iterator);
  count_is : length l.seats.items ≡ length l.yielded;
  seats_are : All (λ (s : SeatState). IsWorked l.pool.board.now.id l.pool.graph.now s) l.seats.items;
  admitted : All (λ (s : SeatState). All (g.G.Gate.admits l.pool.gate.now) s.had) l.seats.items;
  ran_is : map (λ r. r.job) l.all.items ≡ all_had l.seats.items;
  stands : All (λ r. MatchResult r.kept (λ n. IsRan (map cell_name l.pool.cells.now) l.pool.graph.now
      (g.W.Work.defines l.pool.work.now) r.job n.cell n.known (map (λ u. u.cell) r.used.items)
      (map (λ u. u.known) r.used.items)) (λ b. IsMade (map cell_name l.pool.cells.now) l.pool.graph.now
      (g.W.Work.defines l.pool.work.now) r.job b.value (map (λ u. u.cell) r.used.items)
      (map (λ u. u.known) r.used.items))) l.all.items;
}
