use Rattle.std.proofs.Common.{◌≡◌, map, take, length, Some}
use Rattle.once_cell.specs.Once.{cell_name}
use Rattle.pool_board.specs.Results.{items_at}
use Rattle.pool_board.proofs.cells.all_finished.Given as goal

abbrev pub invariant-loop-job : goal.invariant-loop-job
invariant-loop-job g l = record {
  count_is : length l.outs.items ≡ l.job-index;
  cells_are : map (λ n. n.cell) l.notes.items ≡ items_at (map cell_name l.cells) (take l.job-index l.jobs);
  known_are : map (λ n. n.known) l.notes.items ≡ map (λ x. Some x.now) l.outs.items;
}
