use Rattle.wasm_engine.proofs.AtOnce.{call_front}
use Rattle.wasm_engine.proofs.quick.next_call.Goals as goal

pub returns-in-Call : goal.returns-in-Call
returns-in-Call c = call_front c.args.code.now c.in_ok-op.rest.now c.in_ok-op.op c.in-Call.function c.in_ok-op.ensures
    c.in-Call.is
