use Rattle.std.proofs.Common.{◌≡◌, ◌++◌, ℕ, length, map, get_or, None}
use Rattle.std.specs.Prelude.{IfSome}
use Rattle.std.specs.Vec.Iter.{into_iter_items, into_iter_len}
use Rattle.once_cell.specs.Once.{cell_name}
use Rattle.pool_board.specs.Results.{AreCoherent}
use Rattle.m2_pool.specs.Settled.{IsAnswered}
use Rattle.m2_pool.proofs.gather.gather_results.Given as goal

abbrev pub invariant-loop-place : goal.invariant-loop-place
invariant-loop-place g l = record {
  rest_is : l.yielded ++ into_iter_items l.place-iterator ≡ l.fn.places.items;
  length_is : into_iter_len l.place-iterator ≡ length (into_iter_items l.place-iterator);
  count_is : length l.settled.items ≡ length l.yielded;
  outs_count : length l.outs.items ≡ length l.yielded;
  settled_are : (p : ℕ) → IfSome (get_or l.settled.items p None)
      (λ n. IsAnswered (map cell_name l.pool.cells.now) (g.W.Work.defines l.pool.work.now) l.outs.items p n.cell
      n.known);
  outs_are : AreCoherent l.pool.graph.now (g.W.Work.defines l.pool.work.now) l.outs.items;
}
