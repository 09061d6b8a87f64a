-- What reading again comes to, for each variant of a type expression.
use Rattle.std.proofs.Common.{◌≡◌, List, Option, Some, None, ap, ◌∙◌}
use Rattle.std.specs.List.{fold}
use Rattle.std.proofs.lemmas.List.Folds.{fold-map}
use Rattle.m2_tree.specs.declared.pos.Pos.{Pos}
use Rattle.m2_tree.specs.declared.expr.Qualified.{Qualified}
use Rattle.m2_tree.specs.declared.decl.Simple.{Simple}
use Rattle.m2_tree.specs.declared.decl.Parameter.{Parameter}
use Rattle.m2_tree.specs.declared.decl.TypeExpr.{TypeExpr, TypeExpr-F, out-TypeExpr, map-TypeExpr, fold_out-TypeExpr}
use Rattle.m2_tree.specs.declared.decl.TypeExpr.TheOpen as layer
use Rattle.m2_tree.specs.declared.decl.TypeExpr.TheVariants as type
use Rattle.m2_tree.specs.declared.decl.Field.{Field, out-Field, fold_out-Field}
use Rattle.m2_rule.specs.declared.breach.Breach.{Breach}
use Rattle.check_scope.specs.declared.scope.Scope.{Scope}
use Rattle.check_scope.specs.Elaborated.{least}
use Rattle.check_definition.specs.Again.{Passing, Passes, again_simple, then_passes, type_layer, field_layer, again_type, again_field, with_field}

abbrev P : Type 0
P = Passes least

at : (s : Scope Breach) (st : Passing Breach) (e : TypeExpr) (x : TypeExpr-F TypeExpr Field) → out-TypeExpr e ≡ x
    → again_type least e s st
    ≡ type_layer least (map-TypeExpr TypeExpr Field P P (again_type least) (again_field least) x) s st
unfolding again_type again_field
at s st e x h = ap (λ (f : P). f s st) (fold_out-TypeExpr P P (type_layer least) (field_layer least) e
    ∙ ap (λ (y : TypeExpr-F TypeExpr Field). type_layer least
    (map-TypeExpr TypeExpr Field P P (again_type least) (again_field least) y)) h)

module _ (s : Scope Breach) (st : Passing Breach) where
  pub reads_Simple : (t : Simple) → again_type least (type.Simple t) s st ≡ again_simple least t s st
  reads_Simple t = at s st (type.Simple t) (layer.Simple t) (type.outs-Simple t)

  pub reads_Array : (p : Pos) (i : Simple) (of : TypeExpr)
      → again_type least (type.Array p i of) s st ≡ again_type least of s (again_simple least i s st)
  reads_Array p i of = at s st (type.Array p i of) (layer.Array p i of) (type.outs-Array p i of)

  pub reads_Record : (p : Pos) (fs : List Field)
      → again_type least (type.Record p fs) s st ≡ fold (with_field least s) st fs
  reads_Record p fs = at s st (type.Record p fs) (layer.Record p fs) (type.outs-Record p fs)
      ∙ fold-map (then_passes least s) (again_field least) st fs

  pub reads_Procedure : (p : Pos) (ps : List Parameter) (r : Option Qualified)
      → again_type least (type.Procedure p ps r) s st ≡ st
  reads_Procedure p ps None = at s st (type.Procedure p ps None) (layer.Procedure p ps None)
      (type.outs-Procedure p ps None)
  reads_Procedure p ps (Some q) = at s st (type.Procedure p ps (Some q)) (layer.Procedure p ps (Some q))
      (type.outs-Procedure p ps (Some q))

  pub reads_field : (f : Field) → again_field least f s st ≡ again_type least (out-Field f).of s st
  unfolding again_type again_field
  reads_field f = ap (λ (m : P). m s st) (fold_out-Field P P (type_layer least) (field_layer least) f)

pub ruleset reads = (reads_Simple, reads_Array, reads_Record, reads_Procedure, reads_field)
