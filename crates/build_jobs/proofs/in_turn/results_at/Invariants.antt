use Rattle.std.proofs.Common.{◌≡◌, ◌++◌, drop, map}
use Rattle.pool_board.specs.Results.{items_at}
use Rattle.build_jobs.proofs.in_turn.results_at.Given as goal

abbrev pub invariant-loop-job : goal.invariant-loop-job
invariant-loop-job l =
    map (λ c. c.now) l.outs.items ++ items_at l.results (drop l.job-index l.jobs) ≡ items_at l.results l.jobs
