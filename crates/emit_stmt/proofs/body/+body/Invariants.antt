use Rattle.std.proofs.Common.{◌≡◌, ◌+◌, take, drop, length}
use Rattle.emit_buffer.specs.Frames.{setting_of}
use Rattle.emit_stmt.specs.Written.{with_steps, with_arms, with_jumps}
use Rattle.emit_stmt.proofs.body.+body.Given as goal

abbrev pub invariant-body_code-loop-stmt : goal.invariant-body_code-loop-stmt
invariant-body_code-loop-stmt l = l.draft
    ≡ with_steps (setting_of l.setting) l.initial.draft (take l.stmt-index l.stmts)

abbrev pub invariant-arms_code-loop-arm : goal.invariant-arms_code-loop-arm
invariant-arms_code-loop-arm l = l.draft
    ≡ with_arms l.t (setting_of l.setting) l.initial.draft (take l.arm-index l.arms)

abbrev pub invariant-jumps_code-loop-arm : goal.invariant-jumps_code-loop-arm
invariant-jumps_code-loop-arm l = (l.left + l.arm-index ≡ length l.arms)
    × (with_jumps l.place (setting_of l.setting) l.draft (drop l.arm-index l.arms)
    ≡ with_jumps l.place (setting_of l.setting) l.initial.draft l.arms)
