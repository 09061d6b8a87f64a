use Rattle.std.proofs.Common.{◌≡◌, ◌<◌, suc, ◌+◌, length, map, sym, ap, ◌∙◌, subst, ℕ, arith, below_more}
use Rattle.std.proofs.lemmas.Bool.{false≢true}
use Rattle.std.proofs.lemmas.List.{length-map}
use Rattle.pool_board.specs.Graph.{AreBelow, prerequisites_of}
use Rattle.pool_board.proofs.Targets.{row_at}
use Rattle.pool_board.proofs.graph.are_sound_by_marks.Goals as goal
use Rattle.pool_board.proofs.graph.are_sound_by_marks.Goals.{After-is_sound_by_marks}

row_is : (c : After-is_sound_by_marks) → c.as_slice.result.now
    ≡ prerequisites_of (map (λ v. v.items) c.args.jobs.now) c.loop-job.job
row_is c = c.as_slice.ensures.value ∙ (ap (λ v. v.items) c.index-jobs-job.is
    ∙ row_at (λ v. v.items) c.args.jobs.now c.loop-job.job c.index-jobs-job.result c.loop-job-test.true)

pub returns-then-not-is_sound_by_marks : goal.returns-then-not-is_sound_by_marks
returns-then-not-is_sound_by_marks c = (
  (λ t. absurd (false≢true t)),
  λ sound.
      let w : After-is_sound_by_marks = (goal.at.returns-then-not-is_sound_by_marks c).After-is_sound_by_marks in
      let low : c.loop-job.job < length (map (λ v. v.items) c.args.jobs.now) =
      rw (length-map c.args.jobs.now (λ v. v.items)) c.loop-job-test.true in
      sym c.if-not-is_sound_by_marks.true ∙ c.is_sound_by_marks.ensures.sound.1
      (rw (row_is w) (λ p. sound c.loop-job.job p low)),
)

pub loop-job-preserved : goal.loop-job-preserved
loop-job-preserved c =
    let w : After-is_sound_by_marks = (goal.at.loop-job-preserved c).After-is_sound_by_marks in
    let one : suc c.loop-job.job ≡ c.loop-job.job + 1 = omega arith in
    record {
      sound = below_more _ _ c.loop-job.invariant.sound
          (rw (row_is w) at (c.is_sound_by_marks.ensures.sound.0 c.if-not-is_sound_by_marks.false));
      below = subst (λ (k : ℕ). AreBelow c.is_sound_by_marks.new.marks k) one c.is_sound_by_marks.ensures.below;
    }
