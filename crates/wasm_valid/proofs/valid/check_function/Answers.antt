use Rattle.wasm_valid.specs.CodeScope.{scope_of}
use Rattle.wasm_valid.proofs.Whole.{function_decides}
use Rattle.wasm_valid.proofs.valid.check_function.Goals as goal

pub returns-in-Some : goal.returns-in-Some
returns-in-Some c = function_decides c.check_body.result (scope_of c.args.scope) c.args.function.now
    c.in-Some.func_type.now c.in-Some.ensures c.check_body.ensures
