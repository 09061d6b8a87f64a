use Rattle.std.proofs.Common.{◌≡◌, ℕ, ◌+◌, ◌-◌, [], ◌∷◌, ap, ◌∙◌, arith}
use Rattle.wasm_code.proofs.Groups.{signed_small, signed_great, signed_more, signed_none, shifted_within, ends, goes_on, is_whole}
use Rattle.wasm_code.proofs.writer.push_signed.Goals as goal

pub returns-then-rest-lt64 : goal.returns-then-rest-lt64
returns-then-rest-lt64 c =
    ends c.push_reserved.new.self.items c.loop.bytes.items c.args.bytes.now.items _ _ _ c.push_reserved.ensures.items
    (signed_small c.args.most c.loop.counter c.args.top c.loop.rest c.loop-test.true c.if-rest-lt64.true)
    c.loop.invariant.0

pub returns-then-top-rest : goal.returns-then-top-rest
returns-then-top-rest c =
    let byte : c.loop.rest + 127 - c.args.top ≡ 127 - (c.args.top - c.loop.rest) = omega (arith, c.loop.invariant.2) in
    ends c.push_reserved-then-top-rest.new.self.items c.loop.bytes.items c.args.bytes.now.items _ _ _
    c.push_reserved-then-top-rest.ensures.items
    (signed_great c.args.most c.loop.counter c.args.top c.loop.rest c.loop-test.true c.if-rest-lt64.false
    c.if-top-rest.true ∙ ap (λ (b : ℕ). b ∷ []) byte)
    c.loop.invariant.0

pub loop-preserved : goal.loop-preserved
loop-preserved c =
    rw c.shift_group-rest.ensures (
      goes_on c.push_reserved-in-loop.new.self.items c.loop.bytes.items c.args.bytes.now.items _ _ _ _
          c.push_reserved-in-loop.ensures.items
          (signed_more c.args.most c.loop.counter c.args.top c.loop.rest c.loop-test.true c.if-rest-lt64.false
          c.if-top-rest.false)
          c.loop.invariant.0,
      omega arith,
      shifted_within c.args.top c.loop.rest c.loop.invariant.2,
    )

pub returns : goal.returns
returns c = is_whole c.loop.bytes.items c.args.bytes.now.items _ _
    (signed_none c.args.most c.loop.counter c.args.top c.loop.rest c.loop-test.false) c.loop.invariant.0
