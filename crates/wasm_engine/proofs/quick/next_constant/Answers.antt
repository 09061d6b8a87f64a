use Rattle.wasm_engine.proofs.AtOnce.{constant_front}
use Rattle.wasm_engine.proofs.quick.next_constant.Goals as goal

pub returns-in-I64Const : goal.returns-in-I64Const
returns-in-I64Const c = constant_front c.args.code.now c.in_ok-op.rest.now c.in_ok-op.op c.in-I64Const.number
    c.in_ok-op.ensures c.in-I64Const.is
