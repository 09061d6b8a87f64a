use Rattle.std.proofs.Common.{sym, ◌∙◌}
use Rattle.std.proofs.lemmas.Result.{err_from_is_err_and}
use Rattle.wasm_code.proofs.Loop.{fails_same}
use Rattle.wasm_binary.proofs.Loop.{skip_more, skip_fail, skip_none}
use Rattle.wasm_binary.proofs.module_bytes.skip_all_at.Goals as goal

pub returns-in_err-rest-clause-gives : goal.returns-in_err-rest-clause-gives
returns-in_err-rest-clause-gives c =
    let p = err_from_is_err_and c.from_residual.result c.from_residual.ensures.1 in
    rw (p.1, p.2) (fails_same c.in_err-rest.field-0.0 _ _
    (skip_fail c.args.expected.now c.loop-byte.byte-index c.loop-byte.rest.now c.in_err-rest.field-0.0
    c.loop-byte-test.true c.in_err-rest.ensures.gives) c.loop-byte.invariant)

pub loop-byte-preserved : goal.loop-byte-preserved
loop-byte-preserved c =
    sym (skip_more c.args.expected.now c.loop-byte.byte-index c.loop-byte.rest.now c.in_ok-rest.rest.now
    c.loop-byte-test.true c.in_ok-rest.ensures.gives) ∙ c.loop-byte.invariant

pub returns-clause-gives : goal.returns-clause-gives
returns-clause-gives c = sym c.loop-byte.invariant
    ∙ skip_none c.args.expected.now c.loop-byte.byte-index c.loop-byte.rest.now c.loop-byte-test.false
