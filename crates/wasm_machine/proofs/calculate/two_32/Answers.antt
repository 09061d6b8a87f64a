use Rattle.wasm_machine.proofs.Ready.{topmost_i32, lower_i32}
use Rattle.wasm_machine.proofs.calculate.two_32.Goals as goal

pub pop_i32-m-requires : goal.pop_i32-m-requires
pop_i32-m-requires c = topmost_i32 c.args.stack.now.known.values c.requires

pub top_i32-requires : goal.top_i32-requires
top_i32-requires c = lower_i32 c.args.stack.now.known.values c.pop_i32-m.new.self.known.values c.pop_i32-m.result
    c.requires c.pop_i32-m.ensures
