use Rattle.wasm_engine.proofs.Taken.{fourth, third, second, first, top_is, taken, taken_four, restored}
use Rattle.wasm_engine.proofs.quick.check.Goals as goal

pub pop_i64-fault-requires : goal.pop_i64-fault-requires
pop_i64-fault-requires c = fourth c.args.stack.now.known.values c.requires

pub pop_i64-high-requires : goal.pop_i64-high-requires
pop_i64-high-requires c = third c.args.stack.now.known.values c.requires _ _ c.pop_i64-fault.ensures

pub pop_i64-low-requires : goal.pop_i64-low-requires
pop_i64-low-requires c = second c.args.stack.now.known.values c.requires _ _ c.pop_i64-fault.ensures _ _
    c.pop_i64-high.ensures

pub top_i64-number-requires : goal.top_i64-number-requires
top_i64-number-requires c = first c.args.stack.now.known.values c.requires _ _ c.pop_i64-fault.ensures _ _
    c.pop_i64-high.ensures _ _ c.pop_i64-low.ensures

pub returns-then-is_between : goal.returns-then-is_between
returns-then-is_between c =
    let number = top_is _ _ _ c.top_i64-number.ensures in
    let all = taken _ _ _ _ _ _ _ c.pop_i64-fault.ensures c.pop_i64-high.ensures c.pop_i64-low.ensures in (
      _,
      c.top_i64-number.result,
      c.pop_i64-low.result,
      c.pop_i64-high.result,
      c.pop_i64-fault.result,
      taken_four _ _ _ _
          _ _ _ all number,
      c.is_between.ensures c.if-is_between.true,
      number,
    )

pub returns : goal.returns
returns c =
    let all = taken c.args.stack.now.known.values _ _ _ _ _ _ c.pop_i64-fault.ensures c.pop_i64-high.ensures
    c.pop_i64-low.ensures in
    restored c.args.stack.now.known.values c.pop_i64-low.new.self.known.values c.push_i64.new.self.known.values
    c.push_i64-2.new.self.known.values c.push_i64-3.new.self.known.values _ _ _ c.in_ok-push_i64.ensures
    c.in_ok-push_i64-2.ensures c.in_ok-push_i64-3.ensures all
