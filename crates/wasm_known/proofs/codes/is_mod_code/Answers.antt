use Rattle.std.proofs.Common.{sym, ap, ◌∙◌, refl}
use Rattle.std.specs.Cmp.Lexicographic.{pointwise}
use Rattle.wasm_tree.specs.Code.{tree, tree_within}
use Rattle.wasm_known.proofs.Same.{eqs, lists, mod_exact}
use Rattle.wasm_helpers.specs.Operations.{mod_ops}
use Rattle.wasm_known.proofs.codes.is_mod_code.Goals as goal

pub returns : goal.returns
unfolding tree tree_within
returns c same = ap tree (lists c.args.ops.now mod_ops mod_exact
    (ap (λ l. pointwise eqs c.args.ops.now l) (sym (c.as_slice.ensures ∙ c.mod_ops-code.ensures.ops)) ∙ sym c.eq.ensures
    ∙ same)) ∙ refl
