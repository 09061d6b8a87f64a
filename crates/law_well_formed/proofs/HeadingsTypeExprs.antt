-- A type expression marks all names that it declares.
use Rattle.std.proofs.Common.{ℕ, List, [], ◌∷◌, Result, Ok, refl, sym, subst, pos}
use Rattle.std.specs.Prelude.{map}
use Rattle.std.specs.List.{fold}
use Rattle.m2_tree.specs.declared.name.Ident.{Ident}
use Rattle.m2_tree.specs.declared.decl.Simple.{Simple}
use Rattle.m2_tree.specs.declared.decl.Simple.TheVariants as simple
use Rattle.m2_tree.specs.declared.decl.TypeExpr.{TypeExpr, TypeExpr-F, roll-TypeExpr, out-roll-TypeExpr}
use Rattle.m2_tree.specs.declared.decl.TypeExpr.TheOpen as layer
use Rattle.m2_tree.specs.declared.decl.Field.{Field, Field-F, out-Field, roll-Field, out-roll-Field}
use Rattle.typed_tree.specs.declared.types.TypeNo.{TypeNo}
use Rattle.check_scope.specs.Elaborated.{Gathers}
use Rattle.check_scope.specs.declared.known.Known.TheVariants.{Later, Declared}
use Rattle.check_scope.specs.declared.known.Origin.TheVariants.{Here}
use Rattle.check_scope.specs.declared.scope.Scope.{Scope}
use Rattle.check_type_expr.specs.declared.field.Fields.{Fields}
use Rattle.check_type_expr.specs.Fields.{no_fields}
use Rattle.check_type_expr.specs.Made.{next_type, with_shape, enumeration_constant, enumeration_scalar, too_many, enumerate_name, simple_type, index_type, Makes, MakesFields, then_fields, type_layer, field_layer, type_of, field_list}
use Rattle.check_definition.specs.Marking.{Marks, marked_later, marked_simple, then_marks, marked_in, marked_field}
use Rattle.check_definition.specs.Marking as marking
use Rattle.law_folds.proofs.TypeFolds.{Typed, bare, bare_field, all_trees, marks_opened, marks_at, marks_at_field, types_opened, fields_opened, types_at, fields_at}
use Rattle.law_folds.proofs.TypeFolds.{Fielded as WithFields}
use Rattle.law_folds.proofs.MarkSteps.{names_marks, type_marks}
use Rattle.law_well_formed.proofs.HeadingsSteps.{marked_refl, marked_then, keeps_marks, MarksAll, Changes, changes_refl, changes_then, changes_first, changes_second, unless_changes, shape_changes, made_changes}

-- ---- types that are made

module _ (g : Gathers) where
  listed_all : (t : TypeNo) (names : List Ident) (l : Scope g.Reported × ℕ × Result (Unit {0}) g.Reported)
      → Changes (λ z. fold marked_later z names) l.0 (fold (enumerate_name g t) l names).0
  listed_all t [] l = changes_refl _ l.0
  listed_all t (x ∷ xs) l =
      changes_then
      (changes_first (λ z. marked_later z x) (λ z. fold marked_later z xs) (names_marks keeps_marks xs)
      (unless_changes g l.0 x Later (Declared Here (Ok (enumeration_constant t (pos l.1))))))
      (changes_second (λ z. marked_later z x) (λ z. fold marked_later z xs) (listed_all t xs (enumerate_name g t l x)))

  simple_changes : (s : Scope g.Reported) (t : Simple) → Changes (marked_simple t) s (simple_type g s t).0
  simple_changes s (simple.Named q) = changes_refl _ s
  simple_changes s (simple.Enumeration at names) =
      changes_then (shape_changes (λ z. fold marked_later z names) s (enumeration_scalar (next_type s) names))
      (listed_all (next_type s) names (with_shape s (enumeration_scalar (next_type s) names), 0, too_many g names))
  simple_changes s (simple.Subrange o at low high) = made_changes (λ z. z) s _

  abbrev Fielded : Type 0
  Fielded = Scope g.Reported × Fields × Result (Unit {0}) g.Reported

  abbrev Makes' : Makes g → Marks g.Reported → Type 0
  Makes' f m = (s : Scope g.Reported) → Changes m s (f s).0

  abbrev Fields' : MakesFields g → Marks g.Reported → Type 0
  Fields' f m = (st : Fielded) → Changes m st.0 (f st).0

  abbrev PT : TypeExpr → Makes g → Type 0
  PT t f = Makes' f (marked_in t)

  abbrev PF : Field → MakesFields g → Type 0
  PF d f = Fields' f (marked_field d)

  abbrev ST : Type 0
  ST = Typed (type_of g) (field_list g) PT PF

  abbrev SF : Type 0
  SF = WithFields (type_of g) (field_list g) PT PF

  abbrev stripped : TypeExpr-F ST SF → TypeExpr-F TypeExpr Field
  stripped y = bare (type_of g) (field_list g) PT PF y

  abbrev stripped_field : Field-F ST SF → Field-F TypeExpr Field
  stripped_field y = bare_field (type_of g) (field_list g) PT PF y

  field_marked : (d : Field) → MarksAll {T = g.Reported} (marked_field d)
  field_marked d = subst MarksAll (sym (marks_at_field d (out-Field d) refl)) (type_marks keeps_marks (out-Field d).of)

  abbrev bare_fields : List SF → List Field
  bare_fields fs = map (λ (f : SF). f.0) fs

  abbrev field_names : List SF → Marks g.Reported
  field_names fs z = fold then_marks z (map (marked_field {T = g.Reported}) (bare_fields fs))

  names_marked : (fs : List SF) → MarksAll (field_names fs)
  names_marked [] s = marked_refl s
  names_marked (f ∷ fs) s = marked_then (field_marked f.0 s) (names_marked fs (marked_field f.0 s))

  fields_change : (fs : List SF) (st : Fielded)
      → Changes (field_names fs) st.0 (fold (then_fields g) st (map (field_list g) (bare_fields fs))).0
  fields_change [] st = changes_refl _ st.0
  fields_change (f ∷ fs) st =
      changes_then (changes_first (marked_field f.0) (field_names fs) (names_marked fs) (f.1 st))
      (changes_second (marked_field f.0) (field_names fs) (fields_change fs (field_list g f.0 st)))

  type_changes : (y : TypeExpr-F ST SF)
      → Makes' (type_layer g (types_opened g (stripped y))) (marking.type_layer (marks_opened (stripped y)))
  type_changes (layer.Simple t) = λ s. simple_changes s t
  type_changes (layer.Array at index t) = λ s.
      changes_then (changes_first (marked_simple index) (marked_in t.0) (type_marks keeps_marks t.0)
      (simple_changes s index))
      (changes_then (changes_second (marked_simple index) (marked_in t.0) (t.1 (index_type g s index).0))
      (made_changes _ (type_of g t.0 (index_type g s index).0).0 _))
  type_changes (layer.Record at fields) =
      λ s. changes_then (fields_change fields (s, no_fields, Ok tt)) (made_changes _ _ _)
  type_changes (layer.Procedure at formals t) = λ s. made_changes _ s _

  type_step : (y : TypeExpr-F ST SF) → PT (roll-TypeExpr (stripped y)) (type_layer g (types_opened g (stripped y)))
  type_step y =
      let x : TypeExpr-F TypeExpr Field = stripped y in
      subst (λ (m : Marks g.Reported). Makes' (type_layer g (types_opened g x)) m)
      (sym (marks_at (roll-TypeExpr x) x (out-roll-TypeExpr x))) (type_changes y)

  field_step : (y : Field-F ST SF)
      → PF (roll-Field (stripped_field y)) (field_layer g (fields_opened g (stripped_field y)))
  field_step y =
      let x : Field-F TypeExpr Field = stripped_field y in
      subst (λ (m : Marks g.Reported). Fields' (field_layer g (fields_opened g x)) m)
      (sym (marks_at_field (roll-Field x) x (out-roll-Field x))) (λ st. y.of.1 st.0)

  pub type_changed : (t : TypeExpr) (s : Scope g.Reported) → Changes (marked_in t) s (type_of g t s).0
  type_changed =
      all_trees (type_of g) (field_list g) PT PF (type_layer g) (field_layer g) (types_at g)
      (fields_at g) type_step field_step
