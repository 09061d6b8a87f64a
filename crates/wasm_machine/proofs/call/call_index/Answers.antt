use Rattle.wasm_machine.specs.Going.{store_of}
use Rattle.wasm_machine.proofs.Ready.{callee_there, callee_ready}
use Rattle.wasm_machine.proofs.call.call_index.Goals as goal

pub callee_at-callee-requires : goal.callee_at-callee-requires
callee_at-callee-requires c = callee_there c.args.modules.now (store_of c.args.machine.now)
    c.args.machine.now.now.instance c.args.function c.args.machine.now.now.stack.known.values c.requires

pub call-requires : goal.call-requires
call-requires c = callee_ready c.args.modules.now (store_of c.args.machine.now) c.args.machine.now.now.instance
    c.args.function c.args.machine.now.now.stack.known.values c.callee_at-callee.result c.requires
    c.callee_at-callee.ensures
