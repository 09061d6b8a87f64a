use Rattle.std.proofs.Common.{[], ◌∷◌, arith, length-append}
use Rattle.std.proofs.lemmas.Result.{err_from_is_err_and}
use Rattle.wasm_code.specs.Number.{unsigned}
use Rattle.wasm_code.proofs.Loop.{goes_on, fails, is_whole, many_more, many_fail, many_none}
use Rattle.wasm_code.proofs.code.many_labels.Goals as goal

pub returns-in_err-label-clause-gives : goal.returns-in_err-label-clause-gives
returns-in_err-label-clause-gives c =
    let p = err_from_is_err_and c.from_residual.result c.from_residual.ensures.1 in
    rw (p.1, p.2) (fails c.in_err-label.field-0.0 c.loop.labels _ _
    (many_fail unsigned c.args.count c.loop.counter c.loop.rest.now c.in_err-label.field-0.0 c.loop-test.true
    c.in_err-label.ensures.gives) c.loop.invariant.0)

pub loop-preserved : goal.loop-preserved
loop-preserved c = (
  rw c.in_ok-push.ensures.ok (goes_on c.loop.labels c.in_ok-label.label _ _ _
      (many_more unsigned c.args.count c.loop.counter c.loop.rest.now c.in_ok-label.label c.in_ok-label.after.now
      c.loop-test.true c.in_ok-label.ensures.gives) c.loop.invariant.0),
  rw c.in_ok-push.ensures.ok (omega (
    arith,
    c.loop.invariant.1,
    length-append c.loop.labels
        (c.in_ok-label.label ∷ []),
  )),
)

pub returns-clause-gives : goal.returns-clause-gives
returns-clause-gives c =
    is_whole c.loop.labels c.loop.rest.now _ _
    (many_none unsigned c.args.count c.loop.counter c.loop.rest.now c.loop-test.false) c.loop.invariant.0
