use Rattle.std.proofs.Common.{ℕ, ◌<◌, map}
use Rattle.pool_board.specs.Graph.{IsJob, prerequisites_of}
use Rattle.pool_board.proofs.graph.are_sound_by_look.Given as goal

abbrev pub invariant-loop-job : goal.invariant-loop-job
invariant-loop-job l = (job : ℕ) → job < l.job → IsJob (prerequisites_of (map (λ v. v.items) l.jobs) job) job
