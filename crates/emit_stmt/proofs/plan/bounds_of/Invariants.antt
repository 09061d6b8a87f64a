use Rattle.std.proofs.Common.{◌≡◌, None, drop}
use Rattle.std.specs.List.{fold}
use Rattle.emit_stmt.specs.Plans.{with_label}
use Rattle.emit_stmt.specs.Written.{labels_in}
use Rattle.emit_stmt.proofs.plan.bounds_of.Given as goal

abbrev pub invariant-loop-arm : goal.invariant-loop-arm
invariant-loop-arm l = fold with_label l.bounds (labels_in (drop l.arm-index l.arms))
    ≡ fold with_label None (labels_in l.arms)
