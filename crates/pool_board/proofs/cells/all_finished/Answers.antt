use Rattle.std.proofs.Common.{map, length, Some, ap, arith, length-append, ◌∷◌, []}
use Rattle.once_cell.specs.Once.{cell_name}
use Rattle.pool_board.proofs.Picks.{both_more, cells_more}
use Rattle.pool_board.proofs.cells.all_finished.Goals as goal

pub loop-job-preserved : goal.loop-job-preserved
loop-job-preserved g c =
    let pushed = ap (λ l. length l) c.in_ok-push.ensures.items in
    record {
      count_is = omega (
        arith,
        c.loop-job.invariant.count_is,
        pushed,
        length-append c.loop-job.outs.items
            (c.in-Some.out ∷ []),
      );
      cells_are = cells_more (λ n. n.cell) (map cell_name c.args.cells.now) c.args.jobs.now c.loop-job.notes.items _
          c.loop-job.job-index c.in-Some.note c.loop-job-test.true c.in_ok-push-2.ensures.items
          c.loop-job.invariant.cells_are c.in-Some.ensures.cell;
      known_are = both_more (λ n. n.known) (λ x. Some x.now) c.loop-job.notes.items _ c.loop-job.outs.items _
          c.in-Some.note c.in-Some.out c.in_ok-push-2.ensures.items c.in_ok-push.ensures.items
          c.loop-job.invariant.known_are c.in-Some.ensures.known;
    }
