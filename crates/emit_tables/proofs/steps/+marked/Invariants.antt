use Rattle.std.proofs.Common.{◌≡◌, take}
use Rattle.std.specs.List.{fold}
use Rattle.emit_tables.specs.Needed.{with_step, with_arm}
use Rattle.emit_tables.proofs.steps.+marked.Given as goal

abbrev pub invariant-stmts_marks-loop-stmt : goal.invariant-stmts_marks-loop-stmt
invariant-stmts_marks-loop-stmt l = l.marks.items
    ≡ fold (with_step l.module_body) l.fn.marks.items (take l.stmt-index l.stmts)

abbrev pub invariant-arms_marks-loop-arm : goal.invariant-arms_marks-loop-arm
invariant-arms_marks-loop-arm l = l.marks.items
    ≡ fold (with_arm l.module_body) l.fn.marks.items (take l.arm-index l.arms)
