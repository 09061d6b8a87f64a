use Rattle.std.proofs.Common.{◌≡◌, map, take}
use Rattle.test_builds.proofs.pool.lists.Given as goal

abbrev pub invariant-loop-row : goal.invariant-loop-row
invariant-loop-row l = map (λ v. v.items) l.lists.items ≡ map (λ r. r.now) (take l.row-index l.rows)
