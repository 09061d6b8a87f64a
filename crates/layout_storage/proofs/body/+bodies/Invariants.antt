use Rattle.std.proofs.Common.{◌≡◌, take}
use Rattle.std.specs.List.{fold}
use Rattle.layout_storage.specs.Counted.{with_stmt, with_arm}
use Rattle.layout_storage.proofs.body.+bodies.Given as goal

abbrev pub invariant-stmts_count-loop-stmt : goal.invariant-stmts_count-loop-stmt
invariant-stmts_count-loop-stmt l = l.all ≡ fold with_stmt 0 (take l.stmt-index l.stmts)

abbrev pub invariant-arms_count-loop-arm : goal.invariant-arms_count-loop-arm
invariant-arms_count-loop-arm l = l.all ≡ fold with_arm 0 (take l.arm-index l.arms)
