-- Names and components answer exactly.
use Rattle.std.proofs.Common.{◌≡◌, ℕ, List, Option, Some, None, Result, Ok, ◌⊎◌, inl, inr, refl, sym, ap, subst, ◌∙◌}
use Rattle.std.specs.Prelude.{slice_get}
use Rattle.m2_rule.specs.declared.rule.Rule.TheVariants as rule
use Rattle.m2_tree.specs.declared.pos.Pos.{Pos}
use Rattle.m2_tree.specs.declared.name.Ident.{Ident}
use Rattle.typed_tree.specs.declared.types.TypeNo.{TypeNo}
use Rattle.typed_tree.specs.declared.computed.Component.TheVariants as part
use Rattle.typed_tree.specs.declared.computed.Place.{Place}
use Rattle.typed_tree.specs.declared.computed.Slot.{Slot}
use Rattle.typed_tree.specs.declared.computed.TypedExpr.{TypedExpr}
use Rattle.typed_tree.specs.declared.meaning.LocalKind.{LocalKind}
use Rattle.typed_tree.specs.declared.meaning.LocalKind.TheVariants as local
use Rattle.typed_tree.specs.declared.meaning.LocalVariable.{LocalVariable}
use Rattle.typed_tree.specs.declared.meaning.Meaning.{Meaning}
use Rattle.typed_tree.specs.declared.meaning.Meaning.TheVariants as meaning
use Rattle.typed_tree.specs.declared.shape.Shape.{Shape}
use Rattle.typed_tree.specs.declared.shape.Shape.TheVariants as shape
use Rattle.typed_tree.specs.Chains.{behind}
use Rattle.typed_tree.specs.Names.{find_name}
use Rattle.typed_tree.specs.Types.{cardinal}
use Rattle.m2_rule.specs.declared.breach.Breach.{Breach}
use Rattle.check_scope.specs.declared.meaningless.Meaningless.{Meaningless}
use Rattle.check_scope.specs.declared.scope.Scope.{Scope}
use Rattle.check_scope.specs.Elaborated.{Gathers, report, plain, ◌▷◌}
use Rattle.check_scope.specs.Scopes.{looked_up}
use Rattle.check_const.specs.Denote.{export_of, exported_by}
use Rattle.check_value.specs.declared.computed.Computed.{Computed}
use Rattle.check_value.specs.declared.computed.Designated.{Designated}
use Rattle.check_value.specs.declared.computed.Designated.TheVariants as designated
use Rattle.check_value.specs.declared.select.Subscripted.{Subscripted}
use Rattle.check_value.specs.declared.select.Subscripted.TheVariants as indexes
use Rattle.check_value.specs.Selection.{numbered_field, field_named, record_field, component, array_indexed, indices, index_type, element_of_array, with_index}
use Rattle.check_value.specs.Values.{designated_by, local_by}
use Rattle.check_expr.specs.Meanings.{first_name, field_of, field_at, index_at}
use Rattle.def_typing.specs.Shapes.{shape_at, IsMade}
use Rattle.def_typing.specs.Operators.{◌!◌, Kind, operand}
use Rattle.def_typing.specs.Things.{Thing, AValue, AVariable, AnOpenArray, AType, AProcedure, ANested, AStandard, AModule, Headless, Standing, Known, Ahead, Undeclared, NotExported, Unknown, Misnamed, undeclared, not_yet, not_exported, IsAssignable, Misassigned, Picks, of_module, of_record, Indexes, of_array, of_open}
use Rattle.def_typing.specs.Things as things
use Rattle.law_typing.specs.Judging.{Judges, Answers, means}
use Rattle.law_typing.specs.Exact.{IsKind, kind_constant, IsThing, thing_value, thing_variable, thing_open, thing_type, thing_procedure, thing_nested, thing_standard, thing_module, of_local, standing, Sees, sees, sees_nothing, sees_headless, sees_unknown, Exports, has_exported, has_nothing, Knows, Repeats, of_heading, of_declaration}
use Rattle.law_typing.proofs.Combining.{Lawful, declined, exact, both_answer, then_answer, then_checked, Finds, finds_headless, finds_nothing, plain_finds, sort_answers, accounts_one, accounts_as}
use Rattle.law_typing.proofs.Naming.{FieldIs, field_there, field_nowhere, field_is}
use Rattle.law_typing.proofs.Placing.{value_suits}
use Rattle.law_typing.proofs.Shaping.{array_of, array_is, fields_of, fields_is, one_made}

abbrev thing_in : Thing → Standing → Thing
thing_in x (Known y) = y
thing_in x other = x

pub known_one : {x y : Thing} → Known x ≡ Known y → x ≡ y
known_one {x = x} e = ap (thing_in x) e

-- ---- names

module _ (g : Gathers) (j : Judges g) (lawful : Lawful g j) (O : Breach → Type 0) (level : ℕ) (at : Pos) where
  abbrev pub Named : Standing → Result Designated g.Reported → Type 0
  Named s r = Answers g j O IsThing (λ x. s ≡ Known x) (Misnamed at s) r

  names_it : {x : Thing} {d : Designated} → IsThing d x → Named (Known x) (Ok d)
  names_it {x = x} {d = d} i = means d x i refl (λ y e. sym (known_one e)) (λ f m. elim m [ ])

  local_answers : (v : LocalVariable) (k : LocalKind) → Named (of_local v.of k) (Ok (local_by level v k))
  local_answers v local.Variable = names_it (thing_variable v.of _)
  local_answers v local.Value = names_it (thing_variable v.of _)
  local_answers v local.Alias = names_it (thing_variable v.of _)
  local_answers v local.Open = names_it (thing_open v.of _)

  only_undeclared : (f : Breach) → Misnamed at Undeclared f → f ≡ at ! rule.Undeclared
  only_undeclared _ undeclared = refl

  only_ahead : (f : Breach) → Misnamed at Ahead f → f ≡ at ! rule.Ahead
  only_ahead _ not_yet = refl

  only_not_exported : (f : Breach) → Misnamed at NotExported f → f ≡ at ! rule.NotExported
  only_not_exported _ not_exported = refl

  pub designated_answers : (m : Meaning) → Named (standing m) (designated_by g level at m)
  designated_answers (meaning.Constant v) = names_it (thing_value (kind_constant v))
  designated_answers (meaning.Type t n) = names_it (thing_type t)
  designated_answers (meaning.Variable v) = names_it (thing_variable v.of _)
  designated_answers (meaning.Local v) = local_answers v v.kind
  designated_answers (meaning.Field f) = names_it (thing_variable f.of _)
  designated_answers (meaning.Procedure p) = names_it (thing_procedure p)
  designated_answers (meaning.LocalProcedure p) = names_it (thing_nested _)
  designated_answers meaning.Ahead = declined g j lawful O at rule.Ahead (λ x e. absurd cc) not_yet only_ahead
  designated_answers (meaning.Standard f) = names_it (thing_standard f)
  designated_answers (meaning.Module k) = names_it (thing_module k)

  pub exported_answers : (s : Standing) (m : Option Meaning) → Exports g j s m
      → Named s (export_of g at m ▷ designated_by g level at)
  exported_answers _ _ (has_exported m) = designated_answers m
  exported_answers _ _ has_nothing = declined g j lawful O at rule.NotExported (λ x e. absurd cc) not_exported
      only_not_exported

module _ (g : Gathers) (j : Judges g) (lawful : Lawful g j) (names : Ident → Standing) (exports : ℕ → Ident → Standing)
    (s : Scope g.Reported) (knows : Knows g j names exports s) where
  abbrev R : Breach → Type 0
  R = Repeats g j names s

  abbrev FindsIt : Standing → Pos → Result Designated (Meaningless g.Reported) → Type 0
  FindsIt st at d = Finds g j lawful R (λ x. st ≡ Known x) (Misnamed at st) d

  seen_finds : (name : Ident) (st : Standing) (r : Result Meaning (Meaningless g.Reported)) → names name ≡ st
      → looked_up g s name ≡ r → Sees g j name.pos st r
      → FindsIt st name.pos (r ▷ λ m. plain (designated_by g s.level name.pos m))
  seen_finds name _ _ e q (sees m) = plain_finds g j lawful R (designated_answers g j lawful R s.level name.pos m)
  seen_finds name _ _ e q sees_nothing = finds_nothing (g.one (name.pos ! rule.Undeclared))
      (accounts_as g j lawful R (λ f x. subst (Misnamed name.pos Undeclared) (sym x) undeclared)
      (only_undeclared g j lawful R s.level name.pos) (accounts_one g j lawful R (name.pos ! rule.Undeclared)))
      (λ y x. absurd cc)
  seen_finds name _ _ e q (sees_headless b r) =
      finds_headless b r (λ f m. of_heading e q m) refl (λ y x. sym (known_one x)) (λ f m. elim m [ ])
  seen_finds name _ _ e q (sees_unknown r) =
      finds_nothing r (record { only = λ f m. inr (of_declaration e q m); each = λ f m. elim m [ ] }) (λ y x. absurd cc)

  pub named_finds : (name : Ident) → FindsIt (names name) name.pos (first_name g s name)
  named_finds name = seen_finds name (names name) (looked_up g s name) refl refl (knows.of_names name)

  -- ---- fields

  module _ (at : Pos) (name : Ident) where
    abbrev PicksIt : Thing → Thing → Type 0
    PicksIt x y = Picks s.types exports name x (Known y)

    abbrev pub FieldFails : Thing → Breach → Type 0
    FieldFails x f = (((st : Standing) → Picks s.types exports name x st → ⊥) × (f ≡ at ! rule.WrongType))
        ⊎ ((st : Standing) × Picks s.types exports name x st × Misnamed name.pos st f)

    abbrev PicksSo : Thing → Result Designated g.Reported → Type 0
    PicksSo x r = Answers g j R IsThing (PicksIt x) (FieldFails x) r

    no_field : {x : Thing} → ((st : Standing) → Picks s.types exports name x st → ⊥)
        → PicksSo x (report g at rule.WrongType)
    no_field n = declined g j lawful R at rule.WrongType (λ y p. n (Known y) p) (inl (n, refl))
        (λ f z. elim z [ inl w ↦ w.1 | inr w ↦ absurd (n w.0 w.1) ])

    -- if one standing is picked
    picks_one : {x : Thing} {r : Result Designated g.Reported} (st : Standing) → Picks s.types exports name x st
        → ((u : Standing) → Picks s.types exports name x u → u ≡ st)
        → Answers g j R IsThing (λ y. st ≡ Known y) (Misnamed name.pos st) r → PicksSo x r
    picks_one {x = x} st p one h = exact g j lawful R (λ y e. subst (Picks s.types exports name x) e p)
        (λ y q. sym (one (Known y) q)) (λ f m. inr (st, p, m))
        (λ f z. elim z [
          | inl w ↦ absurd (w.0 st p)
          | inr w ↦ subst (λ (u : Standing). Misnamed name.pos u f)
              (one w.0 w.1) w.2
        ]) h

    module_one : {k : ℕ} (u : Standing) → Picks s.types exports name (AModule k) u → u ≡ exports k name
    module_one _ of_module = refl

    abbrev fields_in : List (List ℕ × TypeNo) → Shape → List (List ℕ × TypeNo)
    fields_in fs (shape.Record hs) = hs
    fields_in fs other = fs

    record_one : {t : TypeNo} {fs : List (List ℕ × TypeNo)} → IsMade s.types t (shape.Record fs) → (u : Standing)
        → Picks s.types exports name (AVariable t) u → u ≡ things.field_standing (find_name name.name fs)
    record_one {t = t} {fs = fs} m _ (of_record q) =
        ap (λ (hs : List (List ℕ × TypeNo)). things.field_standing (find_name name.name hs))
        (ap (fields_in fs) (one_made s.types t q m))

    not_record : {t : TypeNo} (z : Option Shape) → shape_at s.types t ≡ z
        → ((fs : List (List ℕ × TypeNo)) → z ≡ Some (shape.Record fs) → ⊥) → (st : Standing)
        → Picks s.types exports name (AVariable t) st → ⊥
    not_record z e n _ (of_record m) = n _ (sym e ∙ m)

    field_by : (t : TypeNo) (d : Place) (fs : List (List ℕ × TypeNo)) (o : Option (ℕ × TypeNo)) → FieldIs name.name fs o
        → Answers g j R IsThing (λ y. things.field_standing (find_name name.name fs) ≡ Known y)
        (Misnamed name.pos (things.field_standing (find_name name.name fs)))
        (field_named g name.pos o ▷ λ f. Ok (designated.Variable f.1 (behind d (part.Field t f.0))))
    field_by t d fs _ (field_there n u e) =
        subst (λ (o : Option TypeNo). Answers g j R IsThing (λ y. things.field_standing o ≡ Known y)
        (Misnamed name.pos (things.field_standing o)) (Ok (designated.Variable u (behind d (part.Field t n))))) (sym e)
        (names_it g j lawful R s.level name.pos (thing_variable u _))
    field_by t d fs _ (field_nowhere e) = subst
        (λ (o : Option TypeNo). Answers g j R IsThing (λ y. things.field_standing o ≡ Known y)
        (Misnamed name.pos (things.field_standing o)) (report g name.pos rule.Undeclared)) (sym e)
        (declined g j lawful R name.pos rule.Undeclared (λ x q. absurd cc) undeclared
        (only_undeclared g j lawful R s.level name.pos))

    component_by : (t : TypeNo) (d : Place) (z : Option Shape) → shape_at s.types t ≡ z
        → PicksSo (AVariable t) (record_field g at name (fields_of z) ▷ λ f. Ok
        (designated.Variable f.1 (behind d (part.Field t f.0))))
    component_by t d None e = no_field (not_record None e (λ fs q. absurd cc))
    component_by t d (Some (shape.Record fs)) e =
        picks_one (things.field_standing (find_name name.name fs)) (of_record e) (record_one e)
        (field_by t d fs (numbered_field name.name fs) (field_is name.name fs))
    component_by t d (Some (shape.Scalar r)) e = no_field (not_record _ e (λ fs q. absurd cc))
    component_by t d (Some shape.Set) e = no_field (not_record _ e (λ fs q. absurd cc))
    component_by t d (Some (shape.Array i u)) e = no_field (not_record _ e (λ fs q. absurd cc))
    component_by t d (Some (shape.Procedure h)) e = no_field (not_record _ e (λ fs q. absurd cc))
    component_by t d (Some (shape.Open u)) e = no_field (not_record _ e (λ fs q. absurd cc))

    component_answers : (t : TypeNo) (d : Place) → PicksSo (AVariable t) (component g s.types at name t d)
    component_answers t d = subst (λ (fs : Option (List (List ℕ × TypeNo))). PicksSo (AVariable t)
        (record_field g at name fs ▷ λ f. Ok (designated.Variable f.1 (behind d (part.Field t f.0)))))
        (sym (fields_is s.types t)) (component_by t d (shape_at s.types t) refl)

    pub field_answers : (a : Designated) (x : Thing) → IsThing a x → PicksSo x (field_of g s at name a)
    field_answers _ _ (thing_value i) = no_field (λ st p. elim p [ ])
    field_answers _ _ (thing_variable t d) = component_answers t d
    field_answers _ _ (thing_open t u) = no_field (λ st p. elim p [ ])
    field_answers _ _ (thing_type t) = no_field (λ st p. elim p [ ])
    field_answers _ _ (thing_procedure p) = no_field (λ st p. elim p [ ])
    field_answers _ _ (thing_nested p) = no_field (λ st p. elim p [ ])
    field_answers _ _ (thing_standard p) = no_field (λ st p. elim p [ ])
    field_answers _ _ (thing_module k) = picks_one (exports k name) of_module module_one
        (exported_answers g j lawful R s.level name.pos (exports k name) (exported_by name.name (slice_get s.tables k))
        (knows.of_modules k name))

    pub field_finds : {S : Thing → Type 0} {B : Breach → Type 0} {d : Result Designated (Meaningless g.Reported)}
        → Finds g j lawful R S B d
        → Finds g j lawful R (λ y. (x : Thing) × S x × Picks s.types exports name x (Known y))
        (λ f. B f ⊎ ((x : Thing) × S x × FieldFails x f)) (field_at g s at name d)
    field_finds h = plain_finds g j lawful R
        (sort_answers g j lawful R at rule.WrongType h field_answers (λ b. no_field (λ st p. elim p [ ])))

  -- ---- elements

  -- what is indexed, by the types of its index and its elements
  data IsIndexed : Subscripted → TypeNo × TypeNo → Type 0 where
    indexed_array : (t i e : TypeNo) (d : Place) → IsIndexed (indexes.Array t i e d) (i, e)
    indexed_open : (e : TypeNo) (u : Slot) → IsIndexed (indexes.Open e u) (cardinal, e)

  module _ (at : Pos) where
    abbrev pub NoElements : Thing → Breach → Type 0
    NoElements x f = ((i t : TypeNo) → Indexes s.types x i t → ⊥) × (f ≡ at ! rule.WrongType)

    abbrev IndexesSo : Thing → Result Subscripted g.Reported → Type 0
    IndexesSo x r = Answers g j R IsIndexed (λ p. Indexes s.types x p.0 p.1) (NoElements x) r

    no_elements : {x : Thing} → ((i t : TypeNo) → Indexes s.types x i t → ⊥) → IndexesSo x (report g at rule.WrongType)
    no_elements n = declined g j lawful R at rule.WrongType (λ p q. n p.0 p.1 q) (n, refl) (λ f z. z.1)

    abbrev index_in : TypeNo × TypeNo → Shape → TypeNo × TypeNo
    index_in p (shape.Array i e) = (i, e)
    index_in p other = p

    array_one : {t i e k u : TypeNo} → IsMade s.types t (shape.Array i e) → Indexes s.types (AVariable t) k u
        → ◌≡◌ {A = TypeNo × TypeNo} (k, u) (i, e)
    array_one {t = t} {i = i} {e = e} m (of_array q) = ap (index_in (i, e)) (one_made s.types t q m)

    open_one : {t k u : TypeNo} → Indexes s.types (AnOpenArray t) k u → ◌≡◌ {A = TypeNo × TypeNo} (k, u) (cardinal, t)
    open_one of_open = refl

    not_array : {t : TypeNo} (z : Option Shape) → shape_at s.types t ≡ z
        → ((i e : TypeNo) → z ≡ Some (shape.Array i e) → ⊥) → (i e : TypeNo) → Indexes s.types (AVariable t) i e → ⊥
    not_array z e n i u (of_array m) = n i u (sym e ∙ m)

    array_by : (t : TypeNo) (d : Place) (z : Option Shape) → shape_at s.types t ≡ z
        → IndexesSo (AVariable t) (array_indexed g at t d (array_of z))
    array_by t d None e = no_elements (not_array None e (λ i u q. absurd cc))
    array_by t d (Some (shape.Array i u)) e =
        means _ (i, u) (indexed_array t i u d) (of_array e) (λ p q. array_one e q) (λ f x. x.0 i u (of_array e))
    array_by t d (Some (shape.Scalar r)) e = no_elements (not_array _ e (λ i u q. absurd cc))
    array_by t d (Some shape.Set) e = no_elements (not_array _ e (λ i u q. absurd cc))
    array_by t d (Some (shape.Record fs)) e = no_elements (not_array _ e (λ i u q. absurd cc))
    array_by t d (Some (shape.Procedure h)) e = no_elements (not_array _ e (λ i u q. absurd cc))
    array_by t d (Some (shape.Open u)) e = no_elements (not_array _ e (λ i u q. absurd cc))

    indices_answers : (a : Designated) (x : Thing) → IsThing a x → IndexesSo x (indices g s.types at a)
    indices_answers _ _ (thing_value i) = no_elements (λ i t q. elim q [ ])
    indices_answers _ _ (thing_variable t d) =
        subst (λ (o : Option (TypeNo × TypeNo)). IndexesSo (AVariable t) (array_indexed g at t d o))
        (sym (array_is s.types t)) (array_by t d (shape_at s.types t) refl)
    indices_answers _ _ (thing_open t u) =
        means _ (cardinal, t) (indexed_open t u) of_open (λ p q. open_one q) (λ f x. x.0 cardinal t of_open)
    indices_answers _ _ (thing_type t) = no_elements (λ i t q. elim q [ ])
    indices_answers _ _ (thing_procedure p) = no_elements (λ i t q. elim q [ ])
    indices_answers _ _ (thing_nested p) = no_elements (λ i t q. elim q [ ])
    indices_answers _ _ (thing_standard p) = no_elements (λ i t q. elim q [ ])
    indices_answers _ _ (thing_module k) = no_elements (λ i t q. elim q [ ])

    picked_is : {a : Subscripted} {p : TypeNo × TypeNo} (x : TypedExpr) → IsIndexed a p
        → IsThing (element_of_array x a) (AVariable p.1)
    picked_is x (indexed_array t i e d) = thing_variable e _
    picked_is x (indexed_open e u) = thing_variable e _

    asked_is : {a : Subscripted} {p : TypeNo × TypeNo} → IsIndexed a p → p.0 ≡ index_type a
    asked_is (indexed_array t i e d) = refl
    asked_is (indexed_open e u) = refl

    -- an index on what is indexed
    abbrev pub ElementOf : (TypeNo × TypeNo) × Kind → Thing → Type 0
    ElementOf p y = IsAssignable s.types p.0.0 (operand p.1) × (y ≡ AVariable p.0.1)

    abbrev pub IndexFails : Pos → (TypeNo × TypeNo) × Kind → Breach → Type 0
    IndexFails spot p f = Misassigned s.types p.0.0 spot rule.NotAssignable (operand p.1) f

    index_answers : (spot : Pos) (a : Subscripted) (p : TypeNo × TypeNo) (x : Computed) (c : Kind) → IsIndexed a p
        → IsKind x c → Answers g j R IsThing (ElementOf (p, c)) (IndexFails spot (p, c)) (with_index g s.types spot a x)
    index_answers spot a p x c i k = exact g j lawful R
        {M = λ y. IsAssignable s.types (index_type a) (operand c) × (y ≡ AVariable p.1)}
        {B = λ f. Misassigned s.types (index_type a) spot rule.NotAssignable (operand c) f
        ⊎ (IsAssignable s.types (index_type a) (operand c) × ⊥)}
        (λ y m. (subst (λ (t : TypeNo). IsAssignable s.types t (operand c)) (sym (asked_is i)) m.0, m.1))
        (λ y m. (subst (λ (t : TypeNo). IsAssignable s.types t (operand c)) (asked_is i) m.0, m.1))
        (λ f z. elim z [
          | inl w ↦ subst (λ (t : TypeNo). Misassigned s.types t spot rule.NotAssignable (operand c) f)
              (sym (asked_is i)) w
          | inr w ↦ absurd w.1
        ])
        (λ f w. inl (subst (λ (t : TypeNo). Misassigned s.types t spot rule.NotAssignable (operand c) f) (asked_is i)
        w))
        (then_checked g j lawful R (value_suits s.types (index_type a) g j lawful R rule.NotAssignable spot k)
        (λ e m. means (element_of_array e a) (AVariable p.1) (picked_is e i) refl (λ y q. q) (λ f b. b)))

    pub index_finds : {S : Thing → Type 0} {B : Breach → Type 0} {M : Kind → Type 0} {C : Breach → Type 0}
        {d : Result Designated (Meaningless g.Reported)} {x : Result Computed g.Reported} (spot : Pos)
        → Finds g j lawful R S B d → Answers g j R IsKind M C x
        → Finds g j lawful R (λ y. (p : (TypeNo × TypeNo) × Kind)
        × (((z : Thing) × S z × Indexes s.types z p.0.0 p.0.1) × M p.1) × ElementOf p y)
        (λ f. ((B f ⊎ ((z : Thing) × S z × NoElements z f)) ⊎ C f)
        ⊎ ((p : (TypeNo × TypeNo) × Kind) × (((z : Thing) × S z × Indexes s.types z p.0.0 p.0.1) × M p.1)
        × IndexFails spot p f)) (index_at g s.types at d spot x)
    index_finds spot h a = plain_finds g j lawful R
        (then_answer g j lawful R {N = λ p y. ElementOf p y} {D = λ p f. IndexFails spot p f}
        (both_answer g j lawful R (sort_answers g j lawful R {N = λ z p. Indexes s.types z p.0 p.1} {D = NoElements}
        at rule.WrongType h indices_answers (λ b. no_elements (λ i t q. elim q [ ]))) a)
        (λ p k i. index_answers spot p.0 k.0 p.1 k.1 i.0 i.1))
