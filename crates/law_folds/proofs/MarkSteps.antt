-- What the mark of one name keeps, all marks keep.
use Rattle.std.proofs.Common.{◌≡◌, ℕ, List, [], ◌∷◌, Option, Some, None, refl}
use Rattle.std.specs.Prelude.{map}
use Rattle.std.specs.List.{fold}
use Rattle.m2_tree.specs.declared.name.Ident.{Ident}
use Rattle.m2_tree.specs.declared.decl.Constant.{Constant}
use Rattle.m2_tree.specs.declared.decl.TypeDecl.{TypeDecl}
use Rattle.m2_tree.specs.declared.decl.Variables.{Variables}
use Rattle.m2_tree.specs.declared.decl.Def.{Def}
use Rattle.m2_tree.specs.declared.decl.Def.TheVariants as def
use Rattle.m2_tree.specs.declared.decl.Decl.{Decl, Decl-F, out-Decl}
use Rattle.m2_tree.specs.declared.decl.Decl.TheOpen as decl
use Rattle.m2_tree.specs.declared.decl.Simple.{Simple}
use Rattle.m2_tree.specs.declared.decl.Simple.TheVariants as simple
use Rattle.m2_tree.specs.declared.decl.TypeExpr.{TypeExpr, TypeExpr-F}
use Rattle.m2_tree.specs.declared.decl.TypeExpr.TheOpen as layer
use Rattle.m2_tree.specs.declared.decl.Field.{Field}
use Rattle.typed_tree.specs.Names.{find_name}
use Rattle.check_scope.specs.Scopes.{with_known, unless_marked, mark_name}
use Rattle.check_scope.specs.declared.known.Known.{Known}
use Rattle.check_scope.specs.declared.known.Known.TheVariants.{Later, Ahead}
use Rattle.check_scope.specs.declared.scope.Scope.{Scope}
use Rattle.check_definition.specs.Marking.{Marks, marked_later, marked_simple, then_marks, marked_in, marked_field, marked_constant, marked_type, marked_variables, marked_def}
use Rattle.check_definition.specs.Marking as marking
use Rattle.check_block.specs.Naming.{marked_layer, marked_decl, with_marks}
use Rattle.law_folds.proofs.Orders.{IsOrder, steps}
use Rattle.law_folds.proofs.TypeFolds.{Typed, Fielded, bare, all_trees, marks_opened, marks_at, marks_at_field}

pub record KeepsMarks {T : Type 0} (R : Scope T → Scope T → Type 0) : Type 0 where
  pub order : IsOrder R
  pub later : (s : Scope T) (name : List ℕ) → find_name name s.own ≡ None → R s (with_known name Later s)
  pub ahead : (s : Scope T) (name : List ℕ) → find_name name s.own ≡ None → R s (with_known name Ahead s)

module _ {T : Type 0} {R : Scope T → Scope T → Type 0} (k : KeepsMarks R) where
  abbrev same : Scope T → Scope T
  same s = s

  mark_by : (s : Scope T) (name : List ℕ) (m : Known T) (o : Option (Known T)) → find_name name s.own ≡ o
      → (find_name name s.own ≡ None → R s (with_known name m s)) → R s (unless_marked name m s o)
  mark_by s name m (Some x) e h = k.order.same s
  mark_by s name m None e h = h e

  pub later_mark : (s : Scope T) (name : Ident) → R s (mark_name name Later s)
  later_mark s name = mark_by s name.name Later (find_name name.name s.own) refl (k.later s name.name)

  pub ahead_mark : (s : Scope T) (name : Ident) → R s (mark_name name Ahead s)
  ahead_mark s name = mark_by s name.name Ahead (find_name name.name s.own) refl (k.ahead s name.name)

  pub names_marks : (names : List Ident) (s : Scope T) → R s (fold marked_later s names)
  names_marks = steps k.order same marked_later later_mark

  pub simple_marks : (t : Simple) (s : Scope T) → R s (marked_simple t s)
  simple_marks (simple.Named q) s = k.order.same s
  simple_marks (simple.Enumeration at names) s = names_marks names s
  simple_marks (simple.Subrange of at low high) s = k.order.same s

  -- ---- types

  abbrev AreKept : Marks T → Type 0
  AreKept f = (s : Scope T) → R s (f s)

  abbrev Trees : Type 0
  Trees = Typed (marked_in {T = T}) (marked_field {T = T}) (λ t f. AreKept f) (λ d f. AreKept f)

  abbrev Lists : Type 0
  Lists = Fielded (marked_in {T = T}) (marked_field {T = T}) (λ t f. AreKept f) (λ d f. AreKept f)

  field_lists_marks : (fs : List Lists) (s : Scope T)
      → R s (fold then_marks s (map (marked_field {T = T}) (map (λ (f : Lists). f.0) fs)))
  field_lists_marks [] s = k.order.same s
  field_lists_marks (f ∷ fs) s =
      k.order.next s (marked_field f.0 s) _ (f.1 s) (field_lists_marks fs (marked_field f.0 s))

  abbrev stripped : TypeExpr-F Trees Lists → TypeExpr-F TypeExpr Field
  stripped y = bare (marked_in {T = T}) (marked_field {T = T}) (λ t f. AreKept f) (λ d f. AreKept f) y

  layer_marks : (y : TypeExpr-F Trees Lists) → AreKept (marking.type_layer (marks_opened (stripped y)))
  layer_marks (layer.Simple t) s = simple_marks t s
  layer_marks (layer.Array at index t) s =
      k.order.next s (marked_simple index s) _ (simple_marks index s) (t.1 (marked_simple index s))
  layer_marks (layer.Record at fields) s = field_lists_marks fields s
  layer_marks (layer.Procedure at formals of) s = k.order.same s

  pub type_marks : (t : TypeExpr) (s : Scope T) → R s (marked_in t s)
  type_marks =
      all_trees marked_in marked_field (λ t f. AreKept f) (λ d f. AreKept f) marking.type_layer marking.field_layer
      marks_at marks_at_field layer_marks (λ y. y.of.1)

  -- ---- declarations

  pub constant_marks : (s : Scope T) (c : Constant) → R s (marked_constant s c)
  constant_marks s c = later_mark s c.name

  pub type_decl_marks : (s : Scope T) (d : TypeDecl) → R s (marked_type s d)
  type_decl_marks s d =
      let m : Scope T = mark_name d.name Later s in k.order.next s m _ (later_mark s d.name) (type_marks d.of m)

  pub variables_marks : (s : Scope T) (v : Variables) → R s (marked_variables s v)
  variables_marks s v =
      let m : Scope T = fold marked_later s v.names in k.order.next s m _ (names_marks v.names s) (type_marks v.of m)

  pub constants_marks : (cs : List Constant) (s : Scope T) → R s (fold marked_constant s cs)
  constants_marks = steps k.order same marked_constant constant_marks

  pub types_marks : (ts : List TypeDecl) (s : Scope T) → R s (fold marked_type s ts)
  types_marks = steps k.order same marked_type type_decl_marks

  pub lists_marks : (vs : List Variables) (s : Scope T) → R s (fold marked_variables s vs)
  lists_marks = steps k.order same marked_variables variables_marks

  pub def_marks : (s : Scope T) (d : Def) → R s (marked_def s d)
  def_marks s (def.Constants cs) = constants_marks cs s
  def_marks s (def.Types ts) = types_marks ts s
  def_marks s (def.Variables vs) = lists_marks vs s
  def_marks s (def.Procedure h) = ahead_mark s h.name

  pub defs_marks : (ds : List Def) (s : Scope T) → R s (fold marked_def s ds)
  defs_marks = steps k.order same marked_def def_marks

  pub decl_layer_marks : {A B : Type 0} (y : Decl-F A B) (s : Scope T) → R s (marked_layer s y)
  decl_layer_marks (decl.Constants cs) s = constants_marks cs s
  decl_layer_marks (decl.Types ts) s = types_marks ts s
  decl_layer_marks (decl.Variables vs) s = lists_marks vs s
  decl_layer_marks (decl.Procedure h b) s = ahead_mark s h.name

  pub decls_marks : (ds : List Decl) (st : Scope T × List ℕ) → R st.0 (fold (with_marks marked_decl) st ds).0
  decls_marks =
      steps k.order (λ (st : Scope T × List ℕ). st.0) (with_marks marked_decl)
      (λ st d. decl_layer_marks (out-Decl d) st.0)
