use Rattle.std.proofs.Common.{◌≡◌, take}
use Rattle.std.specs.List.{fold}
use Rattle.emit_stmt.specs.Plans.{with_label}
use Rattle.emit_stmt.proofs.plan.with_labels.Given as goal

abbrev pub invariant-loop-label : goal.invariant-loop-label
invariant-loop-label l = l.bounds ≡ fold with_label l.fn.before (take l.label-index l.labels)
