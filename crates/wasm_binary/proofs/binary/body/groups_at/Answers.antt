use Rattle.std.proofs.Common.{arith}
use Rattle.std.proofs.lemmas.Result.{err_from_is_err_and}
use Rattle.wasm_code.proofs.Loop.{goes_on, fails, is_whole}
use Rattle.wasm_binary.proofs.Loop.{locals_more, locals_fail_first, locals_too_many, locals_fail_type, locals_none}
use Rattle.wasm_tree.specs.declared.fault.WFault.TheVariants.{Malformed}
use Rattle.wasm_binary.proofs.binary.body.groups_at.Goals as goal

pub returns-in_err-number-clause-gives : goal.returns-in_err-number-clause-gives
returns-in_err-number-clause-gives c =
    let p = err_from_is_err_and c.from_residual.result c.from_residual.ensures.1 in
    rw (p.1, p.2) (fails c.in_err-number.field-0.0 c.loop.groups _ _
    (locals_fail_first c.args.count c.loop.counter c.loop.before c.loop.rest.now c.in_err-number.field-0.0
    c.loop-test.true c.in_err-number.ensures.gives) c.loop.invariant.0)

pub returns-in_default-clause-gives : goal.returns-in_default-clause-gives
returns-in_default-clause-gives c =
    fails Malformed c.loop.groups _ _
    (locals_too_many c.args.count c.loop.counter c.loop.before c.loop.rest.now c.in_ok-number.number
    c.in_ok-number.after.now c.loop-test.true c.in_ok-number.ensures.gives (grind arith)) c.loop.invariant.0

pub returns-in_err-value_type-clause-gives : goal.returns-in_err-value_type-clause-gives
returns-in_err-value_type-clause-gives c =
    let p = err_from_is_err_and c.from_residual-in_err-value_type.result c.from_residual-in_err-value_type.ensures.1 in
    rw (p.1, p.2) (fails c.in_err-value_type.field-0.0 c.loop.groups _ _
    (locals_fail_type c.args.count c.loop.counter c.loop.before c.loop.rest.now c.in_err-value_type.field-0.0
    c.in_ok-number.number c.in_ok-number.after.now c.loop-test.true c.in_ok-number.ensures.gives c.in-Some.ensures.0
    c.in_err-value_type.ensures.gives) c.loop.invariant.0)

pub loop-preserved : goal.loop-preserved
loop-preserved c = (
  rw (c.in_ok-push.ensures.ok, c.in-Some.ensures.1) (goes_on c.loop.groups _ _ _ _
      (locals_more c.args.count c.loop.counter c.loop.before c.loop.rest.now c.in_ok-number.number
      c.in_ok-number.after.now c.in_ok-value_type.value_type c.in_ok-value_type.after.now c.loop-test.true
      c.in_ok-number.ensures.gives c.in-Some.ensures.0 c.in_ok-value_type.ensures.gives) c.loop.invariant.0),
  omega (arith, c.in_ok-number.ensures.shorter, c.in_ok-value_type.ensures.shorter, c.loop.invariant.1),
)

pub returns-clause-gives : goal.returns-clause-gives
returns-clause-gives c =
    is_whole c.loop.groups c.loop.rest.now _ _
    (locals_none c.args.count c.loop.counter c.loop.before c.loop.rest.now c.loop-test.false) c.loop.invariant.0
