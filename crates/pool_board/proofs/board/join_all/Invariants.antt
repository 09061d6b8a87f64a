use Rattle.std.proofs.Common.{◌≡◌, ◌++◌, [], length, map, vec_capacity, All}
use Rattle.std.specs.Vec.Iter.{into_iter_items, into_iter_len}
use Rattle.pool_board.specs.Rule.{record_of, IsSourced}
use Rattle.pool_board.specs.Seats.{SeatState, all_had, all_met, all_counts}
use Rattle.pool_board.proofs.board.join_all.Given as goal

abbrev pub invariant-loop-next : goal.invariant-loop-next
invariant-loop-next l = record {
  rest_is : l.yielded ++ into_iter_items l.next-iterator ≡ l.fn.seats.items;
  length_is : into_iter_len l.next-iterator ≡ length (into_iter_items l.next-iterator);
  table_is : l.whole.table_id ≡ l.table.shared.table_id;
  joined_is : l.whole.me ≡ (
    record_of (length l.yielded) (all_had l.yielded) (all_met l.yielded) (all_counts l.yielded),
    [],
  );
  lists_are : map (λ v. v.items) l.lists.items ≡ map (λ (s : SeatState). s.had) l.yielded;
  sourced : All (λ (s : SeatState). IsSourced s.had s.counts) l.yielded;
  room_is : vec_capacity l.lists ≡ vec_capacity l.initial.lists;
}
