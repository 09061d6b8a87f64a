use Rattle.std.proofs.Common.{◌≡◌, ◌++◌, List, length, map, take, Some}
use Rattle.std.specs.Vec.Iter.{into_iter_items, into_iter_len}
use Rattle.pool_board.specs.Graph.{prerequisites_of}
use Rattle.m2_pool.specs.Settled.{known_at}
use Rattle.m2_pool.proofs.gather.agree.Given as goal

abbrev pub invariant-loop-note : goal.invariant-loop-note
invariant-loop-note g l = record {
  rest_is : l.yielded ++ into_iter_items l.note-iterator ≡ l.fn.used.items;
  length_is : into_iter_len l.note-iterator ≡ length (into_iter_items l.note-iterator);
  place_is : l.place ≡ length l.yielded;
  same : l.settled.items ≡ l.initial.settled.items;
  are : (outs : List _) → map (λ u. u.known) l.yielded ≡ map Some outs
      → map (known_at (λ n. n.known) l.initial.settled.items)
      (take (length l.yielded) (prerequisites_of l.pool.graph.now l.job)) ≡ map Some outs;
}
