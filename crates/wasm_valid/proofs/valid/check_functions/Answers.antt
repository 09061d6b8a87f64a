use Rattle.wasm_valid.specs.CodeScope.{scope_of}
use Rattle.wasm_tree.specs.Validity.{IsFunction}
use Rattle.std.proofs.lemmas.Result.{err_from_is_err_and}
use Rattle.wasm_valid.proofs.Stacks.{exit}
use Rattle.wasm_valid.proofs.Each.{each_more, each_all, each_refused}
use Rattle.wasm_valid.proofs.valid.check_functions.Goals as goal

pub loop-function-preserved : goal.loop-function-preserved
loop-function-preserved c = each_more (IsFunction (scope_of c.args.scope)) c.args.functions.now
    c.loop-function.function-index c.function-item.result c.loop-function-test.true c.function-item.is
    c.loop-function.invariant c.in_ok-check_function.ensures

pub returns : goal.returns
returns c = each_all (IsFunction (scope_of c.args.scope)) c.args.functions.now c.loop-function.function-index
    c.loop-function-test.false c.loop-function.invariant

pub returns-in_err-check_function : goal.returns-in_err-check_function
returns-in_err-check_function c =
    let p = err_from_is_err_and c.from_residual.result c.from_residual.ensures.1 in
    exit c.from_residual.result p.0 _ _ _ p.1 p.2
    (each_refused (IsFunction (scope_of c.args.scope)) c.args.functions.now c.loop-function.function-index
    c.function-item.result _ c.loop-function-test.true c.function-item.is c.in_err-check_function.ensures)
