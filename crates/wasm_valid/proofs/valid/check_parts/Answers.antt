use Rattle.wasm_valid.specs.CodeScope.{scope_of}
use Rattle.std.proofs.lemmas.Result.{err_from_is_err_and}
use Rattle.wasm_valid.proofs.Stacks.{exit}
use Rattle.wasm_valid.proofs.Each.{each_more, each_all, each_refused}
use Rattle.wasm_valid.proofs.valid.check_parts.Goals as goal

pub loop-part-preserved : goal.loop-part-preserved
loop-part-preserved g c = each_more (g.T.Part.IsPart (scope_of c.args.scope)) c.args.parts.now
    c.loop-part.part-index c.part-item.result c.loop-part-test.true c.part-item.is
    c.loop-part.invariant c.in_ok-check.ensures

pub returns : goal.returns
returns g c = each_all (g.T.Part.IsPart (scope_of c.args.scope)) c.args.parts.now c.loop-part.part-index
    c.loop-part-test.false c.loop-part.invariant

pub returns-in_err-check : goal.returns-in_err-check
returns-in_err-check g c =
    let p = err_from_is_err_and c.from_residual.result c.from_residual.ensures.1 in
    exit c.from_residual.result p.0 _ _ _ p.1 p.2
    (each_refused (g.T.Part.IsPart (scope_of c.args.scope)) c.args.parts.now c.loop-part.part-index
    c.part-item.result _ c.loop-part-test.true c.part-item.is c.in_err-check.ensures)
