use Rattle.std.proofs.Common.{◌≡◌, suc, ◌-◌, Bool, length}
use Rattle.emit_tables.specs.Marked.{marked_at}
use Rattle.emit_tables.proofs.marks.mark_signature.Given as goal

abbrev pub invariant-loop-marks : goal.invariant-loop-marks
invariant-loop-marks l = (r : Bool) → marked_at l.arguments r l.marks.items ≡ marked_at l.arguments r l.fn.marks.items

abbrev pub decreases-loop-marks : goal.decreases-loop-marks
decreases-loop-marks l = suc l.arguments - length l.marks.items
