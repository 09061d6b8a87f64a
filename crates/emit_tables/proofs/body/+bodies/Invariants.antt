use Rattle.std.proofs.Common.{◌≡◌, ◌++◌, take}
use Rattle.std.specs.List.{flat_map}
use Rattle.emit_tables.specs.Written.{stmt_written, arm_written}
use Rattle.emit_tables.proofs.body.+bodies.Given as goal

abbrev pub invariant-push_stmts-loop-stmt : goal.invariant-push_stmts-loop-stmt
invariant-push_stmts-loop-stmt l = l.characters ≡ l.fn.characters ++ flat_map stmt_written (take l.stmt-index l.stmts)

abbrev pub invariant-push_arms-loop-arm : goal.invariant-push_arms-loop-arm
invariant-push_arms-loop-arm l = l.characters ≡ l.fn.characters ++ flat_map arm_written (take l.arm-index l.arms)
