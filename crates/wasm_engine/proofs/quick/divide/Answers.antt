use Rattle.wasm_machine.proofs.Ready.{topmost_i64, lower_i64}
use Rattle.wasm_engine.proofs.AtOnce.{two_taken, one_back}
use Rattle.wasm_engine.proofs.quick.divide.Goals as goal

pub pop_i64-y-requires : goal.pop_i64-y-requires
pop_i64-y-requires c = topmost_i64 c.args.stack.now.known.values c.requires

pub top_i64-x-requires : goal.top_i64-x-requires
top_i64-x-requires c = lower_i64 c.args.stack.now.known.values c.pop_i64-y.new.self.known.values c.pop_i64-y.result
    c.requires c.pop_i64-y.ensures

pub returns-in-Some : goal.returns-in-Some
returns-in-Some c = (
  _,
  c.top_i64-x.result,
  c.pop_i64-y.result,
  c.in-Some.number,
  two_taken _ _ _ _ _
      c.pop_i64-y.ensures c.top_i64-x.ensures,
  c.in-Some.ensures,
  c.set_i64.ensures,
)

pub returns-in_ok-push_i64-in-None : goal.returns-in_ok-push_i64-in-None
returns-in_ok-push_i64-in-None c = one_back c.args.stack.now.known.values c.pop_i64-y.new.self.known.values
    c.push_i64.new.self.known.values c.pop_i64-y.result c.pop_i64-y.ensures c.in_ok-push_i64-in-None.ensures
