use Rattle.std.proofs.Common.{◌++◌, ◌∷◌, [], map, get_or, Some, sym, ap, ◌∙◌}
use mathlib.Core.List.{map-append}
use Rattle.pool_board.proofs.Picks.{picked_more, picked_past, get_in}
use Rattle.m2_pool.proofs.gather.picks.Goals as goal
use Rattle.m2_pool.proofs.gather.picks.Goals.{then-job-outs+in_ok-push, else-job-outs}

pub loop-job-preserved : goal.loop-job-preserved
loop-job-preserved g c = elim c.if-job-outs.branch [
  | then-job-outs+in_ok-push w ↦
      ap (λ v. map (λ x. x.now) v.items) w.found-is
      ∙ (ap (map (λ x. x.now)) w.in_ok-push.ensures.items
      ∙ (map-append (λ x. x.now) c.loop-job.found.items _
      ∙ (ap (λ l. l ++ w.index-outs-job.result ∷ []) c.loop-job.invariant
      ∙ sym (picked_more c.args.outs.now c.args.jobs.now c.loop-job.job-index w.index-outs-job.result
      c.loop-job-test.true
      (get_in c.args.outs.now (get_or c.args.jobs.now c.loop-job.job-index 0) w.index-outs-job.result w.if-job-outs.true
      ∙ ap Some (sym w.index-outs-job.is))))))
  | else-job-outs w ↦
      ap (λ v. map (λ x. x.now) v.items) w.found-is
      ∙ (c.loop-job.invariant ∙ sym (picked_past c.args.outs.now c.args.jobs.now c.loop-job.job-index
      c.loop-job-test.true w.if-job-outs.false))
]
