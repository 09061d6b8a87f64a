use Rattle.std.proofs.Common.{◌≡◌, ◌≢◌, ℕ, ◌<◌, ◌≤◌}
use Rattle.pool_board.specs.Rule.{count_of_edge}
use Rattle.pool_board.proofs.worker.count_all.Given as goal

abbrev pub invariant-loop-edge : goal.invariant-loop-edge
invariant-loop-edge l = record {
  board_is : l.seat.board ≡ l.board.id;
  had_is : l.seat.had ≡ l.initial.seat.had;
  fresh : (e : ℕ) → l.edge ≤ e → count_of_edge l.job e l.seat.counts ≡ 0;
  all_before : (e : ℕ) → e < l.edge → count_of_edge l.job e l.seat.counts ≡ 1;
  others : (from e : ℕ) → from ≢ l.job → count_of_edge from e l.seat.counts
      ≡ count_of_edge from e l.initial.seat.counts;
}
