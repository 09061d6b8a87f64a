use Rattle.wasm_machine.proofs.Ready.{topmost_i64, lower_i64}
use Rattle.wasm_machine.proofs.calculate.two_64.Goals as goal

pub pop_i64-m-requires : goal.pop_i64-m-requires
pop_i64-m-requires c = topmost_i64 c.args.stack.now.known.values c.requires

pub top_i64-requires : goal.top_i64-requires
top_i64-requires c = lower_i64 c.args.stack.now.known.values c.pop_i64-m.new.self.known.values c.pop_i64-m.result
    c.requires c.pop_i64-m.ensures
