use Rattle.wasm_engine.proofs.AtOnce.{constant_front}
use Rattle.wasm_engine.proofs.Combining.{narrow_front}
use Rattle.wasm_engine.proofs.combined.next_number.Goals as goal

pub returns-in-I32Const : goal.returns-in-I32Const
returns-in-I32Const c = narrow_front c.args.code.now c.in_ok-op.rest.now c.in_ok-op.op c.in-I32Const.number
    c.in_ok-op.ensures c.in-I32Const.is

pub returns-in-I64Const : goal.returns-in-I64Const
returns-in-I64Const c = constant_front c.args.code.now c.in_ok-op.rest.now c.in_ok-op.op c.in-I64Const.number
    c.in_ok-op.ensures c.in-I64Const.is
