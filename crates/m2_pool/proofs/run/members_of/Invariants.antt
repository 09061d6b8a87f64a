use Rattle.std.proofs.Common.{◌≡◌, ◌++◌, [], map, length, All}
use Rattle.std.specs.Vec.Iter.{into_iter_items, into_iter_len}
use Rattle.m2_pool.proofs.run.members_of.Given as goal

abbrev pub invariant-loop-seat : goal.invariant-loop-seat
invariant-loop-seat g l = record {
  rest_is : l.yielded ++ into_iter_items l.seat-iterator ≡ l.fn.seats.items;
  length_is : into_iter_len l.seat-iterator ≡ length (into_iter_items l.seat-iterator);
  owns_are : length l.owns.items ≡ length (into_iter_items l.seat-iterator);
  members_are : map (λ m. m.seat) l.members.items ≡ l.yielded;
  new : All (λ m. m.ran.items ≡ []) l.members.items;
}
