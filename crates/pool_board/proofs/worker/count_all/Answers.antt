use Rattle.std.proofs.Common.{ap, ◌∙◌, arith}
use Rattle.pool_board.specs.Rule.{count_of_edge}
use Rattle.pool_board.proofs.Picks.{now_counted, other_counted, still_fresh}
use Rattle.pool_board.proofs.worker.count_all.Goals as goal

pub loop-edge-preserved : goal.loop-edge-preserved
loop-edge-preserved c = record {
  board_is = c.count_down.ensures.board ∙ c.loop-edge.invariant.board_is;
  had_is = c.count_down.ensures.had ∙ c.loop-edge.invariant.had_is;
  fresh = λ e l. let t = c.count_down.ensures.counts in
      ap (count_of_edge c.args.job e) t.1 ∙ still_fresh c.args.job c.loop-edge.edge t.0 e c.loop-edge.seat.counts l
      (c.loop-edge.invariant.fresh e (omega arith));
  all_before = λ e l. let t = c.count_down.ensures.counts in
      ap (count_of_edge c.args.job e) t.1 ∙ now_counted c.args.job c.loop-edge.edge t.0 e c.loop-edge.seat.counts l
      (c.loop-edge.invariant.all_before e) (c.loop-edge.invariant.fresh e);
  others = λ from e ne. let t = c.count_down.ensures.counts in
      ap (count_of_edge from e) t.1 ∙ other_counted c.args.job c.loop-edge.edge t.0 from e c.loop-edge.seat.counts ne
      ∙ c.loop-edge.invariant.others from e ne;
}
