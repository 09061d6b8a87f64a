use Rattle.std.proofs.Common.{◌<◌, List, ℕ, length, refl, subst}
use Rattle.std.specs.Prelude.{All}
use Rattle.wasm_tree.specs.Code.{tree}
use Rattle.wasm_valid.specs.CodeScope.{scope_of}
use Rattle.wasm_valid.proofs.Whole.{element_decides}
use Rattle.wasm_valid.proofs.valid.ElementPart.check.Goals as goal

pub returns : goal.returns
returns c =
    let known = subst (λ (x : List ℕ). All (λ f. f < length (scope_of c.args.scope).functions) x) c.as_slice.ensures
    (c.if-not-are_functions.ensures.0 refl) in
    element_decides c.check_constant.result (scope_of c.args.scope) c.args.self.now (tree c.ops.result.now)
    c.ops.ensures c.if-scope-self.false known c.check_constant.ensures
