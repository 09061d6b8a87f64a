use Rattle.std.proofs.Common.{arith, length, rules}
use Rattle.std.proofs.lemmas.Grind.{common_steps}
use Rattle.show_code.proofs.Texts.{text-Unreachable, text-Block, text-Loop, text-Br, text-BrIf, text-BrTable, text-Return, text-Call, text-CallIndirect, text-Drop, text-LocalGet, text-LocalSet, text-LocalTee, put-GlobalGet, text-Load, text-Store, text-I32Const, text-I64Const, text-Numeric, text-If-None, text-If-Some, one_put, all_put, no_longer}
use Rattle.show_code.proofs.instructions.+text.Goals as goal

pub put_op-returns-in-Unreachable : goal.put_op-returns-in-Unreachable
put_op-returns-in-Unreachable t c = grind (arith, common_steps, text-Unreachable)

pub put_op-returns-in-Block : goal.put_op-returns-in-Block
put_op-returns-in-Block t c = grind (arith, common_steps, text-Block)

pub put_op-returns-in-Loop : goal.put_op-returns-in-Loop
put_op-returns-in-Loop t c = grind (arith, common_steps, text-Loop)

pub put_op-returns-in-Br : goal.put_op-returns-in-Br
put_op-returns-in-Br t c = grind (arith, common_steps, text-Br)

pub put_op-returns-in-BrIf : goal.put_op-returns-in-BrIf
put_op-returns-in-BrIf t c = grind (arith, common_steps, text-BrIf)

pub put_op-returns-in-BrTable : goal.put_op-returns-in-BrTable
put_op-returns-in-BrTable t c = grind (arith, common_steps, text-BrTable)

pub put_op-returns-in-Return : goal.put_op-returns-in-Return
put_op-returns-in-Return t c = grind (arith, common_steps, text-Return)

pub put_op-returns-in-Call : goal.put_op-returns-in-Call
put_op-returns-in-Call t c = grind (arith, common_steps, text-Call)

pub put_op-returns-in-CallIndirect : goal.put_op-returns-in-CallIndirect
put_op-returns-in-CallIndirect t c = grind (arith, common_steps, text-CallIndirect)

pub put_op-returns-in-Drop : goal.put_op-returns-in-Drop
put_op-returns-in-Drop t c = grind (arith, common_steps, text-Drop)

pub put_op-returns-in-LocalGet : goal.put_op-returns-in-LocalGet
put_op-returns-in-LocalGet t c = grind (arith, common_steps, text-LocalGet)

pub put_op-returns-in-LocalSet : goal.put_op-returns-in-LocalSet
put_op-returns-in-LocalSet t c = grind (arith, common_steps, text-LocalSet)

pub put_op-returns-in-LocalTee : goal.put_op-returns-in-LocalTee
put_op-returns-in-LocalTee t c = grind (arith, common_steps, text-LocalTee)

pub put_op-returns-in-GlobalGet : goal.put_op-returns-in-GlobalGet
put_op-returns-in-GlobalGet t c =
    put-GlobalGet c.args.page.now c.put_numbered-in-GlobalGet.new.page c.args.op c.args.rest.now c.args.level
    c.from-in-GlobalGet.result c.in-GlobalGet.global c.in-GlobalGet.is (search rules)
    c.put_numbered-in-GlobalGet.ensures

pub put_op-returns-in-Load : goal.put_op-returns-in-Load
put_op-returns-in-Load t c = grind (arith, common_steps, text-Load)

pub put_op-returns-in-Store : goal.put_op-returns-in-Store
put_op-returns-in-Store t c = grind (arith, common_steps, text-Store)

pub put_op-returns-in-I32Const : goal.put_op-returns-in-I32Const
put_op-returns-in-I32Const t c = grind (arith, common_steps, text-I32Const)

pub put_op-returns-in-I64Const : goal.put_op-returns-in-I64Const
put_op-returns-in-I64Const t c = grind (arith, common_steps, text-I64Const)

pub put_op-returns-in-Numeric : goal.put_op-returns-in-Numeric
put_op-returns-in-Numeric t c = grind (arith, common_steps, text-Numeric)

pub put_op-returns-in-If : goal.put_op-returns-in-If
put_op-returns-in-If t c = grind (arith, common_steps, text-If-None)

pub put_op-returns-in-IfElse : goal.put_op-returns-in-IfElse
put_op-returns-in-IfElse t c = grind (arith, common_steps, text-If-Some)

pub put_ops-loop-op-preserved : goal.put_ops-loop-op-preserved
put_ops-loop-op-preserved t c = (
  one_put c.args.level c.args.page.now c.loop-op.page c.put_op.new.page _ c.in-Some.op c.loop-op.left.now
      c.in-Some.rest.now c.behind-left.result.now c.put_op.ensures c.in-Some.ensures c.behind-left.ensures
      c.loop-op.invariant.0,
  no_longer (length c.args.ops.now) c.in-Some.op c.loop-op.left.now c.in-Some.rest.now c.behind-left.result.now
      c.in-Some.ensures c.behind-left.ensures c.loop-op.invariant.1,
)

pub put_ops-returns : goal.put_ops-returns
put_ops-returns t c = all_put c.args.level c.args.page.now c.loop-op.page _ c.loop-op.left.now c.in_default.ensures
    c.loop-op.invariant.0
