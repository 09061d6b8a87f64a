use Rattle.std.proofs.Common.{arith, length}
use Rattle.std.proofs.lemmas.Grind.{common_steps}
use Rattle.wasm_code.proofs.Encoded.{encoded-Unreachable, encoded-Block, encoded-Loop, encoded-If-None, encoded-If-Some, encoded-Br, encoded-BrIf, encoded-BrTable, encoded-Return, encoded-Call, encoded-CallIndirect, encoded-Drop, encoded-LocalGet, encoded-LocalSet, encoded-LocalTee, encoded-GlobalGet, encoded-Load, encoded-Store, encoded-I32Const, encoded-I64Const, encoded-Numeric}
use Rattle.wasm_code.proofs.Written.{one_written, all_written, no_longer}
use Rattle.wasm_code.proofs.code.+write.Goals as goal

pub write_op-returns-in-Unreachable : goal.write_op-returns-in-Unreachable
write_op-returns-in-Unreachable t c = grind (arith, common_steps, encoded-Unreachable)

pub write_op-returns-in-Block : goal.write_op-returns-in-Block
write_op-returns-in-Block t c = grind (arith, common_steps, encoded-Block)

pub write_op-returns-in-Loop : goal.write_op-returns-in-Loop
write_op-returns-in-Loop t c = grind (arith, common_steps, encoded-Loop)

pub write_op-returns-in-Br : goal.write_op-returns-in-Br
write_op-returns-in-Br t c = grind (arith, common_steps, encoded-Br)

pub write_op-returns-in-BrIf : goal.write_op-returns-in-BrIf
write_op-returns-in-BrIf t c = grind (arith, common_steps, encoded-BrIf)

pub write_op-returns-in-BrTable : goal.write_op-returns-in-BrTable
write_op-returns-in-BrTable t c = grind (arith, common_steps, encoded-BrTable)

pub write_op-returns-in-Return : goal.write_op-returns-in-Return
write_op-returns-in-Return t c = grind (arith, common_steps, encoded-Return)

pub write_op-returns-in-Call : goal.write_op-returns-in-Call
write_op-returns-in-Call t c = grind (arith, common_steps, encoded-Call)

pub write_op-returns-in_ok-write_indexed-in-CallIndirect : goal.write_op-returns-in_ok-write_indexed-in-CallIndirect
write_op-returns-in_ok-write_indexed-in-CallIndirect t c = grind (arith, common_steps, encoded-CallIndirect)

pub write_op-returns-in-Drop : goal.write_op-returns-in-Drop
write_op-returns-in-Drop t c = grind (arith, common_steps, encoded-Drop)

pub write_op-returns-in-LocalGet : goal.write_op-returns-in-LocalGet
write_op-returns-in-LocalGet t c = grind (arith, common_steps, encoded-LocalGet)

pub write_op-returns-in-LocalSet : goal.write_op-returns-in-LocalSet
write_op-returns-in-LocalSet t c = grind (arith, common_steps, encoded-LocalSet)

pub write_op-returns-in-LocalTee : goal.write_op-returns-in-LocalTee
write_op-returns-in-LocalTee t c = grind (arith, common_steps, encoded-LocalTee)

pub write_op-returns-in-GlobalGet : goal.write_op-returns-in-GlobalGet
write_op-returns-in-GlobalGet t c = grind (arith, common_steps, encoded-GlobalGet)

pub write_op-returns-in-Load : goal.write_op-returns-in-Load
write_op-returns-in-Load t c = grind (arith, common_steps, encoded-Load)

pub write_op-returns-in-Store : goal.write_op-returns-in-Store
write_op-returns-in-Store t c = grind (arith, common_steps, encoded-Store)

pub write_op-returns-in-I32Const : goal.write_op-returns-in-I32Const
write_op-returns-in-I32Const t c = grind (arith, common_steps, encoded-I32Const)

pub write_op-returns-in-I64Const : goal.write_op-returns-in-I64Const
write_op-returns-in-I64Const t c = grind (arith, common_steps, encoded-I64Const)

pub write_op-returns-in-Numeric : goal.write_op-returns-in-Numeric
write_op-returns-in-Numeric t c = grind (arith, common_steps, encoded-Numeric)

pub write_op-returns-in-If : goal.write_op-returns-in-If
write_op-returns-in-If t c = grind (arith, common_steps, encoded-If-None)

pub write_op-returns-in-IfElse : goal.write_op-returns-in-IfElse
write_op-returns-in-IfElse t c = grind (arith, common_steps, encoded-If-Some)

pub write_ops-loop-op-preserved : goal.write_ops-loop-op-preserved
write_ops-loop-op-preserved t c = (
  one_written c.loop-op.out c.write_op.new.out _ c.in-Some.op c.loop-op.left.now c.in-Some.rest.now
      c.behind-left.result.now
      c.in_ok-write_op.ensures c.in-Some.ensures c.behind-left.ensures c.loop-op.invariant.0,
  no_longer (length c.args.ops.now) c.in-Some.op c.loop-op.left.now c.in-Some.rest.now c.behind-left.result.now
      c.in-Some.ensures c.behind-left.ensures c.loop-op.invariant.1,
)

pub write_ops-returns : goal.write_ops-returns
write_ops-returns t c = all_written c.loop-op.out _ c.loop-op.left.now c.in_default.ensures c.loop-op.invariant.0
