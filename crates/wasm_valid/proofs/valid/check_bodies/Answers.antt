use Rattle.std.proofs.lemmas.Result.{err_from_is_err_and}
use Rattle.wasm_tree.specs.Validity.{IsFunction, IsElement, IsData, AreBodies}
use Rattle.wasm_valid.specs.CodeScope.{scope_of}
use Rattle.wasm_valid.proofs.Stacks.{exit}
use Rattle.wasm_valid.proofs.Whole.{not_part}
use Rattle.wasm_valid.proofs.valid.check_bodies.Goals as goal

pub returns-in_err-check_functions : goal.returns-in_err-check_functions
returns-in_err-check_functions c =
    let p = err_from_is_err_and c.from_residual.result c.from_residual.ensures.1 in
    exit c.from_residual.result p.0 _ _ _ p.1 p.2
    (not_part (IsFunction (scope_of c.args.scope)) c.as_slice.result.now c.args.tree.now.functions
    (AreBodies (scope_of c.args.scope) c.args.tree.now) _ c.as_slice.ensures (λ b. b.functions)
    c.in_err-check_functions.ensures)

pub returns-in_err-check_parts : goal.returns-in_err-check_parts
returns-in_err-check_parts c =
    let p = err_from_is_err_and c.from_residual-in_err-check_parts.result
    c.from_residual-in_err-check_parts.ensures.1 in
    exit c.from_residual-in_err-check_parts.result p.0 _ _ _ p.1 p.2
    (not_part (IsElement (scope_of c.args.scope)) c.as_slice-2.result.now c.args.tree.now.elements
    (AreBodies (scope_of c.args.scope) c.args.tree.now) _ c.as_slice-2.ensures (λ b. b.elements)
    c.in_err-check_parts.ensures)

pub returns-in_err-check_parts-2 : goal.returns-in_err-check_parts-2
returns-in_err-check_parts-2 c =
    let p = err_from_is_err_and c.from_residual-in_err-check_parts-2.result
    c.from_residual-in_err-check_parts-2.ensures.1 in
    exit c.from_residual-in_err-check_parts-2.result p.0 _ _ _ p.1 p.2
    (not_part (IsData (scope_of c.args.scope)) c.as_slice-3.result.now c.args.tree.now.data
    (AreBodies (scope_of c.args.scope) c.args.tree.now) _ c.as_slice-3.ensures (λ b. b.segments)
    c.in_err-check_parts-2.ensures)

pub returns : goal.returns
returns c = record {
  functions = rw c.as_slice.ensures at c.in_ok-check_functions.ensures;
  elements = rw c.as_slice-2.ensures at c.in_ok-check_parts.ensures;
  segments = rw c.as_slice-3.ensures at c.in_ok-check_parts-2.ensures;
}
