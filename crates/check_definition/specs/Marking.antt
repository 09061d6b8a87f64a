-- The names that a definition declares, wherever they stand.
use Rattle.std.specs.List.{fold}
use Rattle.m2_tree.specs.declared.name.Ident.{Ident}
use Rattle.m2_tree.specs.declared.decl.Constant.{Constant}
use Rattle.m2_tree.specs.declared.decl.TypeDecl.{TypeDecl}
use Rattle.m2_tree.specs.declared.decl.Variables.{Variables}
use Rattle.m2_tree.specs.declared.decl.Def.{Def}
use Rattle.m2_tree.specs.declared.decl.Def.TheVariants as def
use Rattle.m2_tree.specs.declared.decl.Simple.{Simple}
use Rattle.m2_tree.specs.declared.decl.Simple.TheVariants as simple
use Rattle.m2_tree.specs.declared.decl.TypeExpr.{TypeExpr, TypeExpr-F, fold-TypeExpr}
use Rattle.m2_tree.specs.declared.decl.TypeExpr.TheOpen as layer
use Rattle.m2_tree.specs.declared.decl.Field.{Field, Field-F, fold-Field}
use Rattle.check_scope.specs.declared.known.Known.TheVariants.{Later, Ahead}
use Rattle.check_scope.specs.declared.scope.Scope.{Scope}
use Rattle.check_scope.specs.Scopes.{mark_name}

abbrev pub Marks : Type 0 → Type 0
Marks T = Scope T → Scope T

module _ {T : Type 0} where
  abbrev pub marked_later : Scope T → Ident → Scope T
  marked_later s name = mark_name name Later s

  abbrev pub marked_simple : Simple → Scope T → Scope T
  marked_simple (simple.Named q) s = s
  marked_simple (simple.Enumeration at names) s = fold marked_later s names
  marked_simple (simple.Subrange of at low high) s = s

  abbrev pub then_marks : Scope T → Marks T → Scope T
  then_marks s f = f s

  -- the constants of the enumerations in a type
  abbrev pub type_layer : TypeExpr-F (Marks T) (Marks T) → Marks T
  type_layer (layer.Simple t) = λ s. marked_simple t s
  type_layer (layer.Array at index of) = λ s. of (marked_simple index s)
  type_layer (layer.Record at fields) = λ s. fold then_marks s fields
  type_layer (layer.Procedure at formals of) = λ s. s

  abbrev pub field_layer : Field-F (Marks T) (Marks T) → Marks T
  field_layer f = f.of

  unfoldable pub marked_in : TypeExpr → Marks T
  marked_in = fold-TypeExpr (Marks T) (Marks T) type_layer field_layer

  unfoldable pub marked_field : Field → Marks T
  marked_field = fold-Field (Marks T) (Marks T) type_layer field_layer

  abbrev pub marked_with_field : Scope T → Field → Scope T
  marked_with_field s f = marked_field f s

  abbrev pub marked_constant : Scope T → Constant → Scope T
  marked_constant s c = mark_name c.name Later s

  abbrev pub marked_type : Scope T → TypeDecl → Scope T
  marked_type s t = marked_in t.of (mark_name t.name Later s)

  abbrev pub marked_variables : Scope T → Variables → Scope T
  marked_variables s v = marked_in v.of (fold marked_later s v.names)

  abbrev pub marked_def : Scope T → Def → Scope T
  marked_def s (def.Constants cs) = fold marked_constant s cs
  marked_def s (def.Types ts) = fold marked_type s ts
  marked_def s (def.Variables vs) = fold marked_variables s vs
  marked_def s (def.Procedure h) = mark_name h.name Ahead s
