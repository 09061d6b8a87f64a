-- What each variant of a type expression marks.
use Rattle.std.proofs.Common.{◌≡◌, List, Option, Some, None, ap, ◌∙◌}
use Rattle.std.specs.List.{fold}
use Rattle.std.proofs.lemmas.List.Folds.{fold-map}
use Rattle.m2_tree.specs.declared.pos.Pos.{Pos}
use Rattle.m2_tree.specs.declared.expr.Qualified.{Qualified}
use Rattle.m2_tree.specs.declared.decl.Simple.{Simple}
use Rattle.m2_tree.specs.declared.decl.Parameter.{Parameter}
use Rattle.m2_tree.specs.declared.decl.TypeExpr.{TypeExpr, TypeExpr-F, out-TypeExpr, map-TypeExpr, fold_out-TypeExpr}
use Rattle.m2_tree.specs.declared.decl.TypeExpr.TheOpen as layer
use Rattle.m2_tree.specs.declared.decl.TypeExpr.TheVariants as type
use Rattle.m2_tree.specs.declared.decl.Field.{Field, out-Field, fold_out-Field}
use Rattle.m2_rule.specs.declared.breach.Breach.{Breach}
use Rattle.check_scope.specs.declared.scope.Scope.{Scope}
use Rattle.check_definition.specs.Marking.{marked_simple, then_marks, type_layer, field_layer, marked_in, marked_field, marked_with_field}

abbrev M : Type 0
M = Scope Breach → Scope Breach

at : (s : Scope Breach) (e : TypeExpr) (x : TypeExpr-F TypeExpr Field) → out-TypeExpr e ≡ x
    → marked_in e s ≡ type_layer (map-TypeExpr TypeExpr Field M M marked_in marked_field x) s
unfolding marked_in marked_field
at s e x h = ap (λ (f : M). f s) (fold_out-TypeExpr M M type_layer field_layer e
    ∙ ap (λ (y : TypeExpr-F TypeExpr Field). type_layer (map-TypeExpr TypeExpr Field M M marked_in marked_field y)) h)

module _ (s : Scope Breach) where
  pub marks_Simple : (t : Simple) → marked_in (type.Simple t) s ≡ marked_simple t s
  marks_Simple t = at s (type.Simple t) (layer.Simple t) (type.outs-Simple t)

  pub marks_Array : (p : Pos) (i : Simple) (of : TypeExpr)
      → marked_in (type.Array p i of) s ≡ marked_in of (marked_simple i s)
  marks_Array p i of = at s (type.Array p i of) (layer.Array p i of) (type.outs-Array p i of)

  pub marks_Record : (p : Pos) (fs : List Field) → marked_in (type.Record p fs) s ≡ fold marked_with_field s fs
  marks_Record p fs = at s (type.Record p fs) (layer.Record p fs) (type.outs-Record p fs)
      ∙ fold-map then_marks marked_field s fs

  pub marks_Procedure : (p : Pos) (ps : List Parameter) (r : Option Qualified) → marked_in (type.Procedure p ps r) s ≡ s
  marks_Procedure p ps None = at s (type.Procedure p ps None) (layer.Procedure p ps None)
      (type.outs-Procedure p ps None)
  marks_Procedure p ps (Some q) = at s (type.Procedure p ps (Some q)) (layer.Procedure p ps (Some q))
      (type.outs-Procedure p ps (Some q))

  pub marks_field : (f : Field) → marked_field f s ≡ marked_in (out-Field f).of s
  unfolding marked_in marked_field
  marks_field f = ap (λ (m : M). m s) (fold_out-Field M M type_layer field_layer f)

pub ruleset marks = (marks_Simple, marks_Array, marks_Record, marks_Procedure, marks_field)
