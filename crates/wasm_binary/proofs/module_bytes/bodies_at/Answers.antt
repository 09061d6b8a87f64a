use Rattle.std.proofs.lemmas.Result.{err_from_is_err_and}
use Rattle.wasm_code.proofs.Loop.{goes_on, fails, is_whole}
use Rattle.wasm_binary.proofs.Loop.{bodies_more, bodies_fail, bodies_none}
use Rattle.wasm_binary.proofs.module_bytes.bodies_at.Goals as goal

pub returns-in_err-body : goal.returns-in_err-body
returns-in_err-body c =
    let p = err_from_is_err_and c.from_residual-in_err-body.result c.from_residual-in_err-body.ensures.1 in
    rw (p.1, p.2) (fails c.in_err-body.field-0.0 c.loop-type_index.functions _ _
    (bodies_fail c.args.types.now c.loop-type_index.type_index-index c.loop-type_index.rest.now c.in_err-body.field-0.0
    c.loop-type_index-test.true c.in_err-body.ensures.gives) c.loop-type_index.invariant)

pub loop-type_index-preserved : goal.loop-type_index-preserved
loop-type_index-preserved c =
    rw c.in_ok-push.ensures.ok (goes_on c.loop-type_index.functions _ _ _ _
    (bodies_more c.args.types.now c.loop-type_index.type_index-index c.loop-type_index.rest.now c.in_ok-body.body
    c.in_ok-body.after.now c.loop-type_index-test.true c.in_ok-body.ensures.gives) c.loop-type_index.invariant)

pub returns : goal.returns
returns c =
    is_whole c.loop-type_index.functions c.loop-type_index.rest.now _ _
    (bodies_none c.args.types.now c.loop-type_index.type_index-index c.loop-type_index.rest.now
    c.loop-type_index-test.false) c.loop-type_index.invariant
