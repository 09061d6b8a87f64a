use Rattle.std.proofs.Common.{sym, ap, ◌∙◌, refl}
use Rattle.std.specs.Cmp.Lexicographic.{pointwise}
use Rattle.wasm_tree.specs.Code.{tree, tree_within}
use Rattle.wasm_known.proofs.Same.{eqs, lists, div_exact}
use Rattle.wasm_helpers.specs.Operations.{div_ops}
use Rattle.wasm_known.proofs.codes.is_div_code.Goals as goal

pub returns : goal.returns
unfolding tree tree_within
returns c same = ap tree (lists c.args.ops.now div_ops div_exact
    (ap (λ l. pointwise eqs c.args.ops.now l) (sym (c.as_slice.ensures ∙ c.div_ops-code.ensures.ops)) ∙ sym c.eq.ensures
    ∙ same)) ∙ refl
