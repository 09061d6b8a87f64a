use Rattle.wasm_link.specs.Placed.{link_result}
use Rattle.wasm_link.proofs.Fold.{functions_more, functions_none}
use Rattle.wasm_link.proofs.store.with_functions.Goals as goal

pub loop-function-preserved : goal.loop-function-preserved
loop-function-preserved c =
    functions_more c.args.number c.args.functions.now c.loop-function.function
    (link_result c.loop-function.store c.loop-function.instance) _ _ c.loop-function-test.true
    c.in_ok-with_function.ensures c.loop-function.invariant

pub returns : goal.returns
returns c = functions_none c.args.number c.args.functions.now c.loop-function.function
    (link_result c.loop-function.store c.loop-function.instance) _ c.loop-function-test.false c.loop-function.invariant
