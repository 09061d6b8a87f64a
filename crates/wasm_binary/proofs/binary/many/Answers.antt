use Rattle.std.proofs.Common.{arith}
use Rattle.std.proofs.lemmas.Result.{err_from_is_err_and}
use Rattle.wasm_code.proofs.Loop.{goes_on, fails, is_whole, many_more, many_fail, many_none}
use Rattle.wasm_binary.proofs.binary.many.Goals as goal

pub returns-in_err-item-clause-gives : goal.returns-in_err-item-clause-gives
returns-in_err-item-clause-gives g c =
    let p = err_from_is_err_and c.from_residual.result c.from_residual.ensures.1 in
    rw (p.1, p.2) (fails c.in_err-item.field-0.0 c.loop.items _ _
    (many_fail g.T.Binary.format c.args.count c.loop.counter c.loop.rest.now c.in_err-item.field-0.0 c.loop-test.true
    c.in_err-item.ensures.gives) c.loop.invariant.0)

pub loop-preserved : goal.loop-preserved
loop-preserved g c = (
  rw c.in_ok-push.ensures.ok (goes_on c.loop.items c.in_ok-item.item _ _ _
      (many_more g.T.Binary.format c.args.count c.loop.counter c.loop.rest.now c.in_ok-item.item c.in_ok-item.after.now
      c.loop-test.true c.in_ok-item.ensures.gives) c.loop.invariant.0),
  omega (arith, c.in_ok-item.ensures.shorter, c.loop.invariant.1),
)

pub returns-clause-gives : goal.returns-clause-gives
returns-clause-gives g c =
    is_whole c.loop.items c.loop.rest.now _ _
    (many_none g.T.Binary.format c.args.count c.loop.counter c.loop.rest.now c.loop-test.false) c.loop.invariant.0
