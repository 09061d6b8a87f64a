use Rattle.std.proofs.Common.{ℕ, ◌<◌, map}
use Rattle.pool_board.specs.Graph.{AreBelow, IsJob, prerequisites_of}
use Rattle.pool_board.proofs.graph.are_sound_by_marks.Given as goal

abbrev pub invariant-loop-job : goal.invariant-loop-job
invariant-loop-job l = record {
  sound : (job : ℕ) → job < l.job
      → IsJob (prerequisites_of (map (λ v. v.items) l.jobs) job) job;
  below : AreBelow l.marks l.job;
}
