use Rattle.std.proofs.Common.{◌≡◌, ◌≤◌, length, vec_capacity}
use Rattle.std.specs.Slots.{slots_items}
use Rattle.pool_board.specs.Seats.{unset}
use Rattle.pool_board.proofs.board.unclaimed_jobs.Given as goal

abbrev pub invariant-loop-job : goal.invariant-loop-job
invariant-loop-job l = record {
  so_far : l.list.items ≡ unset (slots_items l.closed.words) l.job;
  few : length l.list.items ≤ l.job;
  room_is : vec_capacity l.list ≡ vec_capacity l.initial.list;
}
