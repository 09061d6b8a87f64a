use Rattle.std.proofs.Common.{◌≡◌}
use Rattle.test_builds.proofs.pool.claim_all.Given as goal

abbrev pub invariant-loop-job : goal.invariant-loop-job
invariant-loop-job l = l.seat.board ≡ l.board.id
