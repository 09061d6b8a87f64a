-- A range of labels, from what is known of its bounds.
use Rattle.std.proofs.Common.{◌≡◌, Option, Some, Result, ap, ◌∙◌}
use Rattle.m2_tree.specs.declared.pos.Pos.{Pos}
use Rattle.typed_tree.specs.declared.types.TypeNo.{TypeNo}
use Rattle.m2_rule.specs.declared.breach.Breach.{Breach}
use Rattle.check_scope.specs.declared.scope.Scope.{Scope}
use Rattle.check_scope.specs.Elaborated.{least}
use Rattle.check_const.specs.declared.operand.Ordinal.{Ordinal}
use Rattle.check_expr.specs.Meanings.{Meant}
use Rattle.check_stmt_parts.specs.Labels.{bound_of, label_range, label_between}

pub range_is : (s : Scope Breach) (base : Option TypeNo) (low high : Meant Breach) (at at' : Pos)
    (first last : Result (Option Ordinal) Breach)
    → at ≡ low.fixed.at → at' ≡ high.fixed.at → first ≡ bound_of least s base at low
    → last ≡ bound_of least s base at high
    → label_range least base at first at' last ≡ label_between least s base low (Some high)
range_is s base low high at at' first last p q f l =
    ap (λ x. label_range least base at x at' last) f
    ∙ ap (λ x. label_range least base at (bound_of least s base at low) at' x) l
    ∙ ap (λ x. label_range least base at (bound_of least s base at low) x (bound_of least s base at high)) q
    ∙ ap (λ x. label_range least base x (bound_of least s base x low) high.fixed.at (bound_of least s base x high)) p
