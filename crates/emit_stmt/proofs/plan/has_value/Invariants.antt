use Rattle.std.proofs.Common.{◌≡◌, ◌&&◌, drop}
use Rattle.std.specs.Prelude.{int_le}
use Rattle.std.specs.List.{list_any}
use Rattle.emit_stmt.proofs.plan.has_value.Given as goal

abbrev pub invariant-loop-label : goal.invariant-loop-label
invariant-loop-label l = list_any (λ y. int_le y.low l.value && int_le l.value y.high) (drop l.label-index l.arm.labels)
    ≡ list_any (λ y. int_le y.low l.value && int_le l.value y.high) l.arm.labels
