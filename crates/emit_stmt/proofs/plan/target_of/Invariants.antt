use Rattle.std.proofs.Common.{◌≡◌, ◌+◌, drop}
use Rattle.emit_stmt.specs.Written.{target_in}
use Rattle.emit_stmt.proofs.plan.target_of.Given as goal

abbrev pub invariant-loop-arm : goal.invariant-loop-arm
invariant-loop-arm l = (l.number ≡ l.arm-index)
    × (l.number + target_in (drop l.arm-index l.arms) l.value ≡ target_in l.arms l.value)
