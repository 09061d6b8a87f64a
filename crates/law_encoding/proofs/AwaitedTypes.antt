-- Type expressions leave the procedures of a scope, and those that are awaited.
use Rattle.std.proofs.Common.{◌≡◌, ℕ, List, [], ◌∷◌, Result, Ok, sym, ap, subst, ◌∙◌, pos}
use Rattle.std.specs.Prelude.{map}
use Rattle.std.specs.List.{fold}
use Rattle.m2_tree.specs.declared.name.Ident.{Ident}
use Rattle.m2_tree.specs.declared.decl.Simple.{Simple}
use Rattle.m2_tree.specs.declared.decl.Simple.TheVariants as simple
use Rattle.m2_tree.specs.declared.decl.TypeExpr.{TypeExpr, TypeExpr-F, out-TypeExpr, roll-TypeExpr, out-roll-TypeExpr, map-TypeExpr, fold_out-TypeExpr, ind-TypeExpr}
use Rattle.m2_tree.specs.declared.decl.TypeExpr.TheOpen as layer
use Rattle.m2_tree.specs.declared.decl.Field.{Field, Field-F, out-Field, roll-Field, out-roll-Field, map-Field, fold_out-Field}
use Rattle.typed_tree.specs.declared.types.TypeNo.{TypeNo}
use Rattle.check_scope.specs.Elaborated.{Gathers}
use Rattle.check_scope.specs.declared.known.Known.TheVariants.{Later, Declared}
use Rattle.check_scope.specs.declared.known.Origin.TheVariants.{Here}
use Rattle.check_scope.specs.declared.scope.Scope.{Scope}
use Rattle.check_type_expr.specs.declared.field.Fields.{Fields}
use Rattle.check_type_expr.specs.Fields.{no_fields}
use Rattle.check_type_expr.specs.Made.{next_type, with_shape, enumeration_constant, enumeration_scalar, too_many, enumerate_name, simple_type, index_type, Makes, MakesFields, then_fields, type_layer, field_layer, type_of, field_list}
use Rattle.check_definition.specs.Marking.{Marks, marked_later, marked_simple, then_marks, marked_in, marked_field}
use Rattle.check_definition.specs.Marking as marking
use Rattle.law_encoding.proofs.Awaited.{Stays, stays_refl, stays_then, unless_stays, marked_stays, shape_stays, made_stays}

-- ---- marks

pub later_all : {weight : TypeNo → ℕ} {T : Type 0} (names : List Ident) (s : Scope T)
    → Stays weight s (fold marked_later s names)
later_all [] s = stays_refl s
later_all (x ∷ xs) s = stays_then (marked_stays s x Later) (later_all xs (marked_later s x))

simple_marks : {weight : TypeNo → ℕ} {T : Type 0} (t : Simple) (s : Scope T) → Stays weight s (marked_simple t s)
simple_marks (simple.Named q) s = stays_refl s
simple_marks (simple.Enumeration at names) s = later_all names s
simple_marks (simple.Subrange o at low high) s = stays_refl s

module _ (weight : TypeNo → ℕ) (T : Type 0) where
  abbrev MarksStay : Marks T → Type 0
  MarksStay f = (s : Scope T) → Stays weight s (f s)

  abbrev PM : TypeExpr → Type 0
  PM t = MarksStay (marked_in {T = T} t)

  abbrev PMF : Field → Type 0
  PMF t = MarksStay (marked_field {T = T} t)

  abbrev SM : Type 0
  SM = (t : TypeExpr) × PM t

  abbrev SMF : Type 0
  SMF = (t : Field) × PMF t

  abbrev marks_opened : TypeExpr-F TypeExpr Field → TypeExpr-F (Marks T) (Marks T)
  marks_opened x = map-TypeExpr TypeExpr Field (Marks T) (Marks T) marked_in marked_field x

  abbrev marks_opened_field : Field-F TypeExpr Field → Field-F (Marks T) (Marks T)
  marks_opened_field x = map-Field TypeExpr Field (Marks T) (Marks T) marked_in marked_field x

  marks_at : (t : TypeExpr) (x : TypeExpr-F TypeExpr Field) → out-TypeExpr t ≡ x
      → marked_in {T = T} t ≡ marking.type_layer (marks_opened x)
  unfolding marked_in marked_field
  marks_at t x h = fold_out-TypeExpr (Marks T) (Marks T) marking.type_layer marking.field_layer t
      ∙ ap (λ (y : TypeExpr-F TypeExpr Field). marking.type_layer (marks_opened y)) h

  marks_at_field : (f : Field) (x : Field-F TypeExpr Field) → out-Field f ≡ x
      → marked_field {T = T} f ≡ marking.field_layer (marks_opened_field x)
  unfolding marked_in marked_field
  marks_at_field f x h = fold_out-Field (Marks T) (Marks T) marking.type_layer marking.field_layer f
      ∙ ap (λ (y : Field-F TypeExpr Field). marking.field_layer (marks_opened_field y)) h

  abbrev marks_bare : TypeExpr-F SM SMF → TypeExpr-F TypeExpr Field
  marks_bare x = map-TypeExpr SM SMF TypeExpr Field (λ t. t.0) (λ f. f.0) x

  abbrev marks_bare_field : Field-F SM SMF → Field-F TypeExpr Field
  marks_bare_field x = map-Field SM SMF TypeExpr Field (λ t. t.0) (λ f. f.0) x

  field_marks : (fs : List SMF) (s : Scope T)
      → Stays weight s (fold then_marks s (map (marked_field {T = T}) (map (λ (f : SMF). f.0) fs)))
  field_marks [] s = stays_refl s
  field_marks (f ∷ fs) s = stays_then (f.1 s) (field_marks fs (marked_field f.0 s))

  type_marks : (y : TypeExpr-F SM SMF) → MarksStay (marking.type_layer (marks_opened (marks_bare y)))
  type_marks (layer.Simple t) = λ s. simple_marks t s
  type_marks (layer.Array at index t) = λ s. stays_then (simple_marks index s) (t.1 (marked_simple index s))
  type_marks (layer.Record at fields) = λ s. field_marks fields s
  type_marks (layer.Procedure at formals t) = λ s. stays_refl s

  step_marks : (x : TypeExpr-F TypeExpr Field) (y : TypeExpr-F SM SMF) → marks_bare y ≡ x → PM (roll-TypeExpr x)
  step_marks x y q = subst MarksStay (sym (marks_at (roll-TypeExpr x) (marks_bare y) (out-roll-TypeExpr x ∙ sym q)))
      (type_marks y)

  step_marks_field : (x : Field-F TypeExpr Field) (y : Field-F SM SMF) → marks_bare_field y ≡ x → PMF (roll-Field x)
  step_marks_field x y q = subst MarksStay
      (sym (marks_at_field (roll-Field x) (marks_bare_field y) (out-roll-Field x ∙ sym q))) y.of.1

  pub marked_in_stays : (t : TypeExpr) → PM t
  marked_in_stays = ind-TypeExpr PM PMF step_marks step_marks_field

-- ---- types that are made

module _ (weight : TypeNo → ℕ) (g : Gathers) where
  listed_all : (t : TypeNo) (names : List Ident) (l : Scope g.Reported × ℕ × Result (Unit {0}) g.Reported)
      → Stays weight l.0 (fold (enumerate_name g t) l names).0
  listed_all t [] l = stays_refl l.0
  listed_all t (x ∷ xs) l = stays_then (unless_stays g l.0 x (Declared Here (Ok (enumeration_constant t (pos l.1)))))
      (listed_all t xs (enumerate_name g t l x))

  simple_stays : (s : Scope g.Reported) (t : Simple) → Stays weight s (simple_type g s t).0
  simple_stays s (simple.Named q) = stays_refl s
  simple_stays s (simple.Enumeration at names) =
      stays_then (shape_stays s (enumeration_scalar (next_type s) names))
      (listed_all (next_type s) names (with_shape s (enumeration_scalar (next_type s) names), 0, too_many g names))
  simple_stays s (simple.Subrange o at low high) = made_stays s _

  abbrev MakesStay : Makes g → Type 0
  MakesStay f = (s : Scope g.Reported) → Stays weight s (f s).0

  abbrev FieldsStay : MakesFields g → Type 0
  FieldsStay f = (st : Scope g.Reported × Fields × Result (Unit {0}) g.Reported) → Stays weight st.0 (f st).0

  abbrev PT : TypeExpr → Type 0
  PT t = MakesStay (type_of g t)

  abbrev PF : Field → Type 0
  PF f = FieldsStay (field_list g f)

  abbrev ST : Type 0
  ST = (t : TypeExpr) × PT t

  abbrev SF : Type 0
  SF = (f : Field) × PF f

  abbrev opened : TypeExpr-F TypeExpr Field → TypeExpr-F (Makes g) (MakesFields g)
  opened x = map-TypeExpr TypeExpr Field (Makes g) (MakesFields g) (type_of g) (field_list g) x

  abbrev opened_field : Field-F TypeExpr Field → Field-F (Makes g) (MakesFields g)
  opened_field x = map-Field TypeExpr Field (Makes g) (MakesFields g) (type_of g) (field_list g) x

  at : (t : TypeExpr) (x : TypeExpr-F TypeExpr Field) → out-TypeExpr t ≡ x → type_of g t ≡ type_layer g (opened x)
  unfolding type_of field_list
  at t x h = fold_out-TypeExpr (Makes g) (MakesFields g) (type_layer g) (field_layer g) t
      ∙ ap (λ (y : TypeExpr-F TypeExpr Field). type_layer g (opened y)) h

  at_field : (f : Field) (x : Field-F TypeExpr Field) → out-Field f ≡ x
      → field_list g f ≡ field_layer g (opened_field x)
  unfolding type_of field_list
  at_field f x h = fold_out-Field (Makes g) (MakesFields g) (type_layer g) (field_layer g) f
      ∙ ap (λ (y : Field-F TypeExpr Field). field_layer g (opened_field y)) h

  abbrev bare : TypeExpr-F ST SF → TypeExpr-F TypeExpr Field
  bare x = map-TypeExpr ST SF TypeExpr Field (λ t. t.0) (λ f. f.0) x

  abbrev bare_field : Field-F ST SF → Field-F TypeExpr Field
  bare_field x = map-Field ST SF TypeExpr Field (λ t. t.0) (λ f. f.0) x

  fields_all : (fs : List SF) (st : Scope g.Reported × Fields × Result (Unit {0}) g.Reported)
      → Stays weight st.0 (fold (then_fields g) st (map (field_list g) (map (λ (f : SF). f.0) fs))).0
  fields_all [] st = stays_refl st.0
  fields_all (f ∷ fs) st = stays_then (f.1 st) (fields_all fs (field_list g f.0 st))

  type_stays : (y : TypeExpr-F ST SF) → MakesStay (type_layer g (opened (bare y)))
  type_stays (layer.Simple t) = λ s. simple_stays s t
  type_stays (layer.Array at index t) = λ s.
      stays_then (simple_stays s index) (stays_then (t.1 (index_type g s index).0)
      (made_stays (type_of g t.0 (index_type g s index).0).0 _))
  type_stays (layer.Record at fields) = λ s. stays_then (fields_all fields (s, no_fields, Ok tt)) (made_stays _ _)
  type_stays (layer.Procedure at formals t) = λ s. made_stays s _

  step_type : (x : TypeExpr-F TypeExpr Field) (y : TypeExpr-F ST SF) → bare y ≡ x → PT (roll-TypeExpr x)
  step_type x y q = subst MakesStay (sym (at (roll-TypeExpr x) (bare y) (out-roll-TypeExpr x ∙ sym q))) (type_stays y)

  step_field : (x : Field-F TypeExpr Field) (y : Field-F ST SF) → bare_field y ≡ x → PF (roll-Field x)
  step_field x y q = subst FieldsStay (sym (at_field (roll-Field x) (bare_field y) (out-roll-Field x ∙ sym q)))
      (λ st. y.of.1 st.0)

  pub type_of_stays : (t : TypeExpr) → PT t
  type_of_stays = ind-TypeExpr PT PF step_type step_field
