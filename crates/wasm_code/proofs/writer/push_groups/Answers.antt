use Rattle.std.proofs.Common.{arith}
use Rattle.wasm_code.proofs.Groups.{groups_last, groups_more, groups_none, ends, goes_on, is_whole}
use Rattle.wasm_code.proofs.writer.push_groups.Goals as goal

pub returns-then-rest-lt128-clause-items : goal.returns-then-rest-lt128-clause-items
returns-then-rest-lt128-clause-items c =
    ends c.push_reserved.new.self.items c.loop.bytes.items c.args.bytes.now.items _ _ _ c.push_reserved.ensures.items
    (groups_last c.args.most c.loop.counter c.loop.rest c.loop-test.true c.if-rest-lt128.true) c.loop.invariant.0

pub loop-preserved : goal.loop-preserved
loop-preserved c = (
  goes_on c.push_reserved-in-loop.new.self.items c.loop.bytes.items c.args.bytes.now.items _ _ _ _
      c.push_reserved-in-loop.ensures.items
      (groups_more c.args.most c.loop.counter c.loop.rest c.loop-test.true c.if-rest-lt128.false)
      c.loop.invariant.0,
  omega arith,
  cc,
)

pub returns-clause-items : goal.returns-clause-items
returns-clause-items c = is_whole c.loop.bytes.items c.args.bytes.now.items _ _
    (groups_none c.args.most c.loop.counter c.loop.rest c.loop-test.false) c.loop.invariant.0
