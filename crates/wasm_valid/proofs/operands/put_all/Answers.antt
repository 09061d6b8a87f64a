use Rattle.wasm_valid.proofs.Stacks.{puts_all}
use Rattle.wasm_valid.proofs.operands.put_all.Goals as goal

pub returns : goal.returns
returns c = puts_all c.args.operands.now c.loop-value_type.operands c.args.given.now c.loop-value_type.value_type-index
    c.loop-value_type-test.false c.loop-value_type.invariant.known c.loop-value_type.invariant.below
