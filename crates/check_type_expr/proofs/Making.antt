-- What each variant of a type expression makes.
use Rattle.std.proofs.Common.{◌≡◌, ℕ, List, [], Option, Some, None, Result, Ok, refl, ap, ◌∙◌}
use Rattle.std.specs.Prelude.{map}
use Rattle.std.specs.List.{fold}
use Rattle.std.proofs.lemmas.List.Folds.{fold-map}
use Rattle.m2_tree.specs.declared.pos.Pos.{Pos}
use Rattle.m2_tree.specs.declared.expr.Qualified.{Qualified}
use Rattle.m2_tree.specs.declared.decl.Simple.{Simple}
use Rattle.m2_tree.specs.declared.decl.Parameter.{Parameter}
use Rattle.m2_tree.specs.declared.decl.TypeExpr.{TypeExpr, TypeExpr-F, out-TypeExpr, map-TypeExpr, fold_out-TypeExpr}
use Rattle.m2_tree.specs.declared.decl.TypeExpr.TheOpen as layer
use Rattle.m2_tree.specs.declared.decl.TypeExpr.TheVariants as type
use Rattle.m2_tree.specs.declared.decl.Field.{Field, Field-F, out-Field, fold_out-Field}
use Rattle.m2_rule.specs.declared.breach.Breach.{Breach}
use Rattle.check_scope.specs.declared.scope.Scope.{Scope}
use Rattle.check_scope.specs.Elaborated.{least}
use Rattle.check_type_expr.specs.declared.field.Fields.{Fields}
use Rattle.check_type_expr.specs.Fields.{no_fields}
use Rattle.check_type_expr.specs.Headings.{procedure_type}
use Rattle.check_type_expr.specs.Made.{Makes, MakesFields, simple_type, index_type, array_type, then_fields, with_field_list, record_type, fields_named, type_layer, field_layer, type_of, field_list, with_made}

at : (s : Scope Breach) (e : TypeExpr) (x : TypeExpr-F TypeExpr Field) → out-TypeExpr e ≡ x
    → type_of least e s ≡ type_layer least
    (map-TypeExpr TypeExpr Field (Makes least) (MakesFields least) (type_of least) (field_list least) x) s
unfolding type_of field_list
at s e x h = ap (λ (f : Makes least). f s)
    (fold_out-TypeExpr (Makes least) (MakesFields least) (type_layer least) (field_layer least) e
    ∙ ap (λ (y : TypeExpr-F TypeExpr Field). type_layer least
    (map-TypeExpr TypeExpr Field (Makes least) (MakesFields least) (type_of least) (field_list least) y)) h)

module _ (s : Scope Breach) where
  pub makes_Simple : (t : Simple) → type_of least (type.Simple t) s ≡ simple_type least s t
  makes_Simple t = at s (type.Simple t) (layer.Simple t) (type.outs-Simple t)

  pub makes_Array : (p : Pos) (i : Simple) (of : TypeExpr)
      → type_of least (type.Array p i of) s ≡ array_type least p (index_type least s i) (type_of least of)
  makes_Array p i of = at s (type.Array p i of) (layer.Array p i of) (type.outs-Array p i of)

  pub makes_Record : (p : Pos) (fs : List Field)
      → type_of least (type.Record p fs) s ≡ record_type least p (fold with_field_list (s, no_fields, Ok tt) fs)
  makes_Record p fs = at s (type.Record p fs) (layer.Record p fs) (type.outs-Record p fs)
      ∙ ap (λ st. record_type least p st) (fold-map (then_fields least) (field_list least) (s, no_fields, Ok tt) fs)

  pub makes_Procedure : (p : Pos) (ps : List Parameter) (r : Option Qualified)
      → type_of least (type.Procedure p ps r) s ≡ with_made s (procedure_type least s ps r)
  makes_Procedure p ps None = at s (type.Procedure p ps None) (layer.Procedure p ps None)
      (type.outs-Procedure p ps None)
  makes_Procedure p ps (Some q) = at s (type.Procedure p ps (Some q)) (layer.Procedure p ps (Some q))
      (type.outs-Procedure p ps (Some q))

pub makes_field : (f : Field) (st : Scope Breach × Fields × Result (Unit {0}) Breach)
    → field_list least f st ≡ fields_named least (type_of least (out-Field f).of st.0) (out-Field f).names st.1 st.2
unfolding type_of field_list
makes_field f st = ap (λ (m : MakesFields least). m st)
    (fold_out-Field (Makes least) (MakesFields least) (type_layer least) (field_layer least) f)

pub ruleset types = (makes_Simple, makes_Array, makes_Record, makes_Procedure, makes_field)
