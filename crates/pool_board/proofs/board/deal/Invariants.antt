use Rattle.std.proofs.Common.{◌≡◌, ◌-◌, [], replicate}
use Rattle.pool_board.specs.Rule.{blank}
use Rattle.pool_board.specs.Seats.{new_seat}
use Rattle.pool_board.proofs.board.deal.Given as goal

abbrev pub invariant-loop : goal.invariant-loop
invariant-loop l = record {
  dealt : l.seats.items ≡ replicate l.counter (new_seat l.table.shared.table_id);
  table_is : l.root.table_id ≡ l.table.shared.table_id;
  rest : l.root.me ≡ (blank (l.workers - l.counter), []);
}
