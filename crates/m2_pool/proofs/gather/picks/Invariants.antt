use Rattle.std.proofs.Common.{◌≡◌, map, take}
use Rattle.pool_board.specs.Results.{items_at}
use Rattle.m2_pool.proofs.gather.picks.Given as goal

abbrev pub invariant-loop-job : goal.invariant-loop-job
invariant-loop-job g l = map (λ x. x.now) l.found.items ≡ items_at l.outs (take l.job-index l.jobs)
