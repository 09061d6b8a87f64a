use Rattle.std.proofs.Common.{◌≡◌}
use Rattle.emit_stmt.specs.Written.{targets_in}
use Rattle.emit_stmt.proofs.plan.targets.Given as goal

abbrev pub invariant-loop-distance : goal.invariant-loop-distance
invariant-loop-distance l = l.targets.items ≡ targets_in l.arms l.plan.least l.distance
