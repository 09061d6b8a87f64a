use Rattle.std.proofs.Common.{◌≡◌, ◌<◌, length, map, sym, ap, ◌∙◌, below_more}
use Rattle.std.proofs.lemmas.Bool.{false≢true}
use Rattle.std.proofs.lemmas.List.{length-map}
use Rattle.pool_board.specs.Graph.{prerequisites_of}
use Rattle.pool_board.proofs.Targets.{row_at}
use Rattle.pool_board.proofs.graph.are_sound_by_look.Goals as goal
use Rattle.pool_board.proofs.graph.are_sound_by_look.Goals.{After-is_sound_by_look}

row_is : (c : After-is_sound_by_look) → c.as_slice.result.now
    ≡ prerequisites_of (map (λ v. v.items) c.args.jobs.now) c.loop-job.job
row_is c = c.as_slice.ensures.value ∙ (ap (λ v. v.items) c.index-jobs-job.is
    ∙ row_at (λ v. v.items) c.args.jobs.now c.loop-job.job c.index-jobs-job.result c.loop-job-test.true)

pub returns-then-not-is_sound_by_look : goal.returns-then-not-is_sound_by_look
returns-then-not-is_sound_by_look c = (
  (λ t. absurd (false≢true t)),
  λ sound.
      let w : After-is_sound_by_look = (goal.at.returns-then-not-is_sound_by_look c).After-is_sound_by_look in
      let low : c.loop-job.job < length (map (λ v. v.items) c.args.jobs.now) =
      rw (length-map c.args.jobs.now (λ v. v.items)) c.loop-job-test.true in
      sym c.if-not-is_sound_by_look.true ∙ c.is_sound_by_look.ensures.1
      (rw (row_is w) (λ p. sound c.loop-job.job p low)),
)

pub loop-job-preserved : goal.loop-job-preserved
loop-job-preserved c =
    let w : After-is_sound_by_look = (goal.at.loop-job-preserved c).After-is_sound_by_look in
    below_more _ _ c.loop-job.invariant (rw (row_is w) at
    (c.is_sound_by_look.ensures.0 c.if-not-is_sound_by_look.false))
