use Rattle.std.proofs.Common.{◌≡◌, map}
use Rattle.pool_board.specs.Results.{results_below}
use Rattle.build_jobs.specs.Borrowed.{modules_borrowed}
use Rattle.build_jobs.specs.Jobs.{compile_at}
use Rattle.build_jobs.proofs.in_turn.compile_in_turn.Given as goal

abbrev pub invariant-loop-job : goal.invariant-loop-job
invariant-loop-job l =
    l.results.items ≡ results_below (map (λ j. j.items) l.jobs) (compile_at (modules_borrowed l.trees) l.files) l.job
