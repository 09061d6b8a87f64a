use Rattle.std.proofs.Common.{◌≡◌, ◌+◌, ◌-◌, ◌≤◌, arith}
use Rattle.wasm_valid.proofs.Stacks.{takes_more, lacks_more, takes_end}
use Rattle.wasm_valid.proofs.operands.take_all.Goals as goal

pub loop-left-preserved : goal.loop-left-preserved
loop-left-preserved c =
    let e : c.loop-left.left ≡ c.loop-left.left - 1 + 1 = omega arith in
    record {
      taken = takes_more c.args.operands.now c.loop-left.operands _ c.args.wanted.now (c.loop-left.left - 1)
          c.loop-left.left _ e c.loop-left.invariant.within c.if-not-take.ensures c.loop-left.invariant.taken;
      within = omega arith;
    }

pub returns-then-not-take : goal.returns-then-not-take
returns-then-not-take c =
    let e : c.loop-left.left ≡ c.loop-left.left - 1 + 1 = omega arith in
    lacks_more c.args.operands.now c.loop-left.operands c.args.wanted.now (c.loop-left.left - 1) c.loop-left.left _ e
    c.loop-left.invariant.within c.if-not-take.ensures c.loop-left.invariant.taken

pub returns : goal.returns
returns c =
    let none : c.loop-left.left ≤ 0 = omega arith in
    takes_end c.args.operands.now c.loop-left.operands c.args.wanted.now c.loop-left.left none
    c.loop-left.invariant.taken
