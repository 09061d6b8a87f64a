use Rattle.std.proofs.Common.{◌≡◌, List, ℕ, sym, subst, ◌∙◌}
use Rattle.std.specs.Prelude.{IfOk}
use Rattle.m2_emit.proofs.Fits.{body_same, none_of_body}
use Rattle.m2_emit.proofs.bytes.body_bytes.Goals as goal

pub returns-then-sizes_fit : goal.returns-then-sizes_fit
returns-then-sizes_fit c =
    subst (λ (all : List ℕ). IfOk c.code_bytes.result (λ bytes. bytes.items ≡ all))
    (body_same c.args.module_body.now c.in_ok-tree.tree (sym c.sizes_fit.ensures ∙ c.if-sizes_fit.true)
    c.in_ok-tree.ensures) c.code_bytes.ensures

pub returns : goal.returns
returns c = c.new.ensures.items ∙ none_of_body c.args.module_body.now (sym c.sizes_fit.ensures ∙ c.if-sizes_fit.false)
