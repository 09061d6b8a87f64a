-- Assignments and conditions answer exactly.
use Rattle.std.proofs.Common.{◌≡◌, ℕ, ◌-◌, Bool, true, false, not, List, length, Option, Some, None, Result, Ok, ◌⊎◌, inl, inr, refl, sym, ap, subst, ◌∙◌}
use Rattle.std.specs.Prelude.{◌-ℤ◌, nat_lt, unsigned_abs}
use Rattle.m2_rule.specs.declared.rule.Rule.TheVariants as rule
use Rattle.m2_tree.specs.declared.pos.Pos.{Pos}
use Rattle.m2_tree.specs.declared.name.Ident.{Ident}
use Rattle.m2_tree.specs.declared.expr.Expr.{Expr}
use Rattle.m2_tree.specs.declared.expr.Expr.TheOpen as layer
use Rattle.m2_tree.specs.declared.expr.Designator.{Designator, out-Designator}
use Rattle.typed_tree.specs.declared.types.TypeNo.{TypeNo}
use Rattle.typed_tree.specs.declared.computed.TypedExpr.{TypedExpr}
use Rattle.typed_tree.specs.declared.computed.Place.{Place}
use Rattle.typed_tree.specs.declared.meaning.Value.TheVariants as value
use Rattle.typed_tree.specs.declared.statement.TypedStmt.{TypedStmt}
use Rattle.typed_tree.specs.declared.shape.Scalar.{Scalar as Range}
use Rattle.typed_tree.specs.declared.shape.Shape.{Shape}
use Rattle.typed_tree.specs.declared.shape.Shape.TheVariants as shape
use Rattle.typed_tree.specs.declared.known_types.Types.{Types}
use Rattle.typed_tree.specs.Known.{scalar_at}
use Rattle.typed_tree.specs.Types.{are_same, boolean, char}
use Rattle.m2_rule.specs.declared.breach.Breach.{Breach}
use Rattle.check_scope.specs.declared.meaningless.Meaningless.{Meaningless}
use Rattle.check_scope.specs.declared.scope.Scope.{Scope}
use Rattle.check_scope.specs.Elaborated.{Gathers, report, reported_where, ◌▷◌}
use Rattle.check_value.specs.declared.class.Class.{Class}
use Rattle.check_value.specs.declared.computed.Computed.{Computed}
use Rattle.check_value.specs.declared.computed.Designated.{Designated}
use Rattle.check_value.specs.declared.places.Accepted.{Accepted}
use Rattle.check_value.specs.declared.places.Accepted.TheVariants as accepted
use Rattle.check_value.specs.Suits.{text_within, text_fits_in, text_fits, whole_suited, suited_in, value_for_place, value_suited}
use Rattle.check_value.specs.declared.effect.Target.{Target}
use Rattle.check_value.specs.declared.effect.Target.TheVariants as target
use Rattle.check_value.specs.Effects.{target_of, target_at, store_statement, assignment_to, assignment_of}
use Rattle.check_expr.specs.Meanings.{meanings_of, head, value_of}
use Rattle.def_typing.specs.Shapes.{shape_at, IsMade}
use Rattle.def_typing.specs.Operators.{◌!◌, Kind, Scalar, Set, Text, Routine, Procedure, Whole, operand}
use Rattle.def_typing.specs.Operators as kinds
use Rattle.def_typing.specs.Things.{Thing, AValue, AVariable, AnOpenArray, AType, AProcedure, ANested, AStandard, AModule, Headless, Standing, content_of, content, Compatible, IsAssignable, Misassigned}
use Rattle.def_typing.specs.Parts.{first}
use Rattle.def_typing.specs.Expressions.{Has, Denotes, BrokenAsValue}
use Rattle.def_typing.specs.Assignments as rules
use Rattle.def_typing.specs.Assignments.{HasRoom, has_room, MayTake, IsTarget, a_variable, an_open_array, Untaken, of_type, of_whole, of_open_array, BrokenDesignator, at_designator, in_designator, Assigns, assigns, BrokenAssignment, on_the_left, on_the_right, no_target, unassignable, IsCondition, is_condition, BrokenCondition, in_condition, no_boolean}
use Rattle.law_typing.specs.Judging.{Judges, Answers, means}
use Rattle.law_typing.specs.Exact.{IsKind, kind_constant, kind_scalar, kind_set, kind_routine, kind_procedure, kind_whole, kind_untaken, IsThing, thing_value, thing_variable, thing_open, thing_type, thing_procedure, thing_nested, thing_standard, thing_module, Knows, Repeats}
use Rattle.law_typing.proofs.Combining.{Lawful, Decided, holds, fails_it, decided_as, declined, both_answer, Checks, passes, stopped, checks_as, map_checks, then_check, Finds, sort_answers}
use Rattle.law_typing.proofs.Deciding.{same_decided, both_decided, some_same}
use Rattle.law_typing.proofs.Placing.{goes_made, unmade_none, value_suits}
use Rattle.law_typing.proofs.Shaping.{class_of, class_is, array_of, array_is, scalar_of, scalar_is, one_made}
use Rattle.law_typing.proofs.Elements.{checks_answer}
use Rattle.law_typing.proofs.Finding.{InLayer}
use Rattle.law_typing.proofs.Places.{at_is, head_at}
use Rattle.law_typing.proofs.Expressing.{exactly, designator_found}

-- ---- room for strings

abbrev range_or : Range → Shape → Range
range_or r (shape.Scalar q) = q
range_or r other = r

abbrev index_of : TypeNo → Shape → TypeNo
index_of t (shape.Array i e) = i
index_of t other = t

abbrev element_of : TypeNo → Shape → TypeNo
element_of t (shape.Array i e) = e
element_of t other = t

not_decided : (b : Bool) → Decided (b ≡ false) (not b)
not_decided true = fails_it (λ e. absurd cc)
not_decided false = holds refl

module _ (types : Types) (n : ℕ) where
  data RoomIn (i : TypeNo) : Type 0 where
    room_in : {r : Range} → IsMade types i (shape.Scalar r) → nat_lt (unsigned_abs (r.high -ℤ r.low)) (n - 1) ≡ false
        → RoomIn i

  index_made : {i : TypeNo} (z : Option Shape) → shape_at types i ≡ z → RoomIn i → (r : Range)
      × (z ≡ Some (shape.Scalar r))
  index_made z e (room_in {r = r} m w) = (r, sym e ∙ m)

  index_by : (i : TypeNo) (z : Option Shape) → shape_at types i ≡ z → Decided (RoomIn i) (text_within n (scalar_of z))
  index_by i None e = fails_it (λ s. let x = index_made None e s in let y = x.1 in absurd cc)
  index_by i (Some (shape.Scalar r)) e = decided_as (room_in e) within
      (not_decided (nat_lt (unsigned_abs (r.high -ℤ r.low)) (n - 1)))
    where
      within : RoomIn i → nat_lt (unsigned_abs (r.high -ℤ r.low)) (n - 1) ≡ false
      within (room_in m w) = subst (λ (x : Range). nat_lt (unsigned_abs (x.high -ℤ x.low)) (n - 1) ≡ false)
          (ap (range_or r) (one_made types i m e)) w
  index_by i (Some shape.Set) e = fails_it (λ s. let x = index_made _ e s in let y = x.1 in absurd cc)
  index_by i (Some (shape.Array k u)) e = fails_it (λ s. let x = index_made _ e s in let y = x.1 in absurd cc)
  index_by i (Some (shape.Record fs)) e = fails_it (λ s. let x = index_made _ e s in let y = x.1 in absurd cc)
  index_by i (Some (shape.Procedure h)) e = fails_it (λ s. let x = index_made _ e s in let y = x.1 in absurd cc)
  index_by i (Some (shape.Open u)) e = fails_it (λ s. let x = index_made _ e s in let y = x.1 in absurd cc)

  index_decided : (i : TypeNo) → Decided (RoomIn i) (text_within n (scalar_at types i))
  index_decided i = subst (λ (r : Option Range). Decided (RoomIn i) (text_within n r)) (sym (scalar_is types i))
      (index_by i (shape_at types i) refl)

  room_made : {t : TypeNo} (z : Option Shape) → shape_at types t ≡ z → HasRoom types t n → (i : TypeNo)
      × (z ≡ Some (shape.Array i char)) × RoomIn i
  room_made z e (has_room {i = i} m q w) = (i, sym e ∙ m, room_in q w)

  of_room : {i t : TypeNo} → IsMade types t (shape.Array i char) → RoomIn i → HasRoom types t n
  of_room m (room_in q w) = has_room m q w

  room_by : (t : TypeNo) (z : Option Shape) → shape_at types t ≡ z
      → Decided (HasRoom types t n) (text_fits_in types n (array_of z))
  room_by t None e = fails_it (λ s. let x = room_made None e s in let y = x.1 in absurd cc)
  room_by t (Some (shape.Array i d)) e = decided_as
      (λ p. of_room (subst (λ (d : TypeNo). IsMade types t (shape.Array i d)) p.0 e) p.1) parts
      (both_decided (same_decided d char) (index_decided i))
    where
      parts : HasRoom types t n → (d ≡ char) × RoomIn i
      parts h = let x = room_made _ e h in let same : shape.Array i d ≡ shape.Array x.0 char = some_same _ _ x.1 in
          (ap (element_of d) same, subst RoomIn (sym (ap (index_of i) same)) x.2)
  room_by t (Some shape.Set) e = fails_it (λ s. let x = room_made _ e s in let y = x.1 in absurd cc)
  room_by t (Some (shape.Scalar r)) e = fails_it (λ s. let x = room_made _ e s in let y = x.1 in absurd cc)
  room_by t (Some (shape.Record fs)) e = fails_it (λ s. let x = room_made _ e s in let y = x.1 in absurd cc)
  room_by t (Some (shape.Procedure h)) e = fails_it (λ s. let x = room_made _ e s in let y = x.1 in absurd cc)
  room_by t (Some (shape.Open d)) e = fails_it (λ s. let x = room_made _ e s in let y = x.1 in absurd cc)

  room_decided : (t : TypeNo) → Decided (HasRoom types t n) (text_fits types t n)
  room_decided t = subst (λ (a : Option (TypeNo × TypeNo)). Decided (HasRoom types t n) (text_fits_in types n a))
      (sym (array_is types t)) (room_by t (shape_at types t) refl)

room_whole : (types : Types) (t : TypeNo) {n : ℕ} → HasRoom types t n → content types t ≡ Whole t
room_whole types t (has_room m q w) = ap (content_of t) m

-- ---- what a variable takes

module _ (g : Gathers) (j : Judges g) (lawful : Lawful g j) (O : Breach → Type 0) (types : Types) (at : Pos) where
  abbrev Taking : TypeNo → Kind → Result Accepted g.Reported → Type 0
  Taking t k r = Checks g j lawful O (MayTake types t k) (λ f. Untaken types at k (AVariable t) f) r

  module _ (t : TypeNo) (structured : content types t ≡ Whole t) (unmade : (k : Kind) → Compatible types t k → ⊥) where
    take_stops : {k : Kind} → (MayTake types t k → ⊥) → Taking t k (report g at rule.NotAssignable)
    take_stops {k = k} n = stopped g j lawful O at rule.NotAssignable n (of_whole structured n) (λ f m. one m)
      where
        one : {f : Breach} → Untaken types at k (AVariable t) f → f ≡ at ! rule.NotAssignable
        one (of_type q m) = absurd (q structured)
        one (of_whole q m) = refl

    take_passes : {k : Kind} (a : Accepted) → MayTake types t k → Taking t k (Ok a)
    take_passes {k = k} a m = passes a m (λ f z. none z)
      where
        none : {f : Breach} → Untaken types at k (AVariable t) f → ⊥
        none (of_type q z) = q structured
        none (of_whole q z) = z m

    take_where : {P : Type 0} {k : Kind} (a : Accepted) (b : Bool) → Decided P b → (P → MayTake types t k)
        → (MayTake types t k → P) → Taking t k (reported_where g (not b) at rule.NotAssignable (Ok a))
    take_where a _ (holds p) f h = take_passes a (f p)
    take_where a _ (fails_it n) f h = take_stops (λ m. n (h m))

    -- by what it is
    taken_so : (k : Kind) → MayTake types t k → (k ≡ Whole t)
        ⊎ ((s : List ℕ) × (k ≡ Text s) × HasRoom types t (length s))
    taken_so k (rules.simple a) = absurd (unmade (operand k) a.compatible)
    taken_so _ (rules.whole e) = inl refl
    taken_so _ (rules.text {s = s} r) = inr (s, refl, r)

    neither : {k : Kind} → (k ≡ Whole t → ⊥) → ((s : List ℕ) → k ≡ Text s → ⊥) → MayTake types t k → ⊥
    neither {k = k} n q m = elim (taken_so k m) [ inl e ↦ n e | inr x ↦ q x.0 x.1 ]

    takes_text : {s : List ℕ} → MayTake types t (Text s) → HasRoom types t (length s)
    takes_text {s = s} m = by (taken_so (Text s) m)
      where
        by : (Text s ≡ Whole t) ⊎ ((r : List ℕ) × (Text s ≡ Text r) × HasRoom types t (length r))
            → HasRoom types t (length s)
        by (inl e) = absurd cc
        by (inr (r, e, h)) = subst (λ (x : List ℕ). HasRoom types t (length x))
            (ap (λ k. elim k [
              | Text x ↦ x
              | Scalar a ↦ r
              | Set m ↦ r
              | Routine u ↦ r
              | Procedure u ↦ r
              | Whole u ↦ r
              | kinds.Untaken ↦ r
            ]) (sym e)) h

    takes_whole : {u : TypeNo} → MayTake types t (Whole u) → u ≡ t
    takes_whole {u = u} m = by (taken_so (Whole u) m)
      where
        by : (Whole u ≡ Whole t) ⊎ ((r : List ℕ) × (Whole u ≡ Text r) × HasRoom types t (length r)) → u ≡ t
        by (inl e) = ap (λ k. elim k [
          | Whole x ↦ x
          | Scalar a ↦ u
          | Set m ↦ u
          | Routine x ↦ u
          | Procedure x ↦ u
          | Text
              x ↦ u
          | kinds.Untaken ↦ u
        ]) e
        by (inr (r, e, h)) = absurd cc

    whole_takes : {x : Computed} {k : Kind} → IsKind x k → Taking t k (whole_suited g rule.NotAssignable types t at x)
    whole_takes (kind_constant (value.Number n)) = take_stops (neither (λ e. absurd cc) (λ s e. absurd cc))
    whole_takes (kind_constant (value.Scalar s)) = take_stops (neither (λ e. absurd cc) (λ s e. absurd cc))
    whole_takes (kind_constant (value.Set bits)) = take_stops (neither (λ e. absurd cc) (λ s e. absurd cc))
    whole_takes (kind_constant (value.Text s)) =
        take_where (accepted.Text s) (text_fits types t (length s)) (room_decided types (length s) t) rules.text
        takes_text
    whole_takes (kind_scalar u b e) = take_stops (neither (λ e. absurd cc) (λ s e. absurd cc))
    whole_takes (kind_set e) = take_stops (neither (λ e. absurd cc) (λ s e. absurd cc))
    whole_takes (kind_routine u e) = take_stops (neither (λ e. absurd cc) (λ s e. absurd cc))
    whole_takes (kind_procedure p) = take_stops (neither (λ e. absurd cc) (λ s e. absurd cc))
    whole_takes (kind_whole u d) = take_where (accepted.Whole d) (are_same u t) (same_decided u t)
        (λ e. subst (λ (u : TypeNo). MayTake types t (Whole u)) (sym e) (rules.whole structured)) takes_whole
    whole_takes kind_untaken = take_stops (neither (λ e. absurd cc) (λ s e. absurd cc))

  simple_takes : (t : TypeNo) → (content types t ≡ Whole t → ⊥) → {x : Computed} {k : Kind} → IsKind x k
      → Taking t k (value_suited g rule.NotAssignable types t at x ▷ λ e. Ok (accepted.Value e))
  simple_takes t n {k = k} i = checks_as g j lawful O rules.simple assigned_so (λ f m. of_type n m)
      (λ f m. misassigned m) (map_checks g j lawful O (λ e. accepted.Value e)
      (value_suits types t g j lawful O rule.NotAssignable at i))
    where
      assigned_so : {l : Kind} → MayTake types t l → IsAssignable types t (operand l)
      assigned_so (rules.simple a) = a
      assigned_so (rules.whole e) = absurd (n e)
      assigned_so (rules.text r) = absurd (n (room_whole types t r))

      misassigned : {f : Breach} → Untaken types at k (AVariable t) f
          → Misassigned types t at rule.NotAssignable (operand k) f
      misassigned (of_type q m) = m
      misassigned (of_whole e m) = absurd (n e)

  takes_by : (t : TypeNo) (z : Option Shape) → shape_at types t ≡ z → {x : Computed} {k : Kind} → IsKind x k
      → Taking t k (suited_in g rule.NotAssignable types t at x (class_of z))
  takes_by t None e i = whole_takes t (ap (content_of t) e) (λ k c. unmade_none types t e c) i
  takes_by t (Some (shape.Array k u)) e i =
      whole_takes t (ap (content_of t) e) (λ k c. elim (goes_made types t c e) [ ]) i
  takes_by t (Some (shape.Record fs)) e i =
      whole_takes t (ap (content_of t) e) (λ k c. elim (goes_made types t c e) [ ]) i
  takes_by t (Some (shape.Open u)) e i = whole_takes t (ap (content_of t) e) (λ k c. elim (goes_made types t c e) [ ]) i
  takes_by t (Some (shape.Scalar r)) e i = simple_takes t (λ q. let z = sym (ap (content_of t) e) ∙ q in absurd cc) i
  takes_by t (Some shape.Set) e i = simple_takes t (λ q. let z = sym (ap (content_of t) e) ∙ q in absurd cc) i
  takes_by t (Some (shape.Procedure h)) e i = simple_takes t (λ q. let z = sym (ap (content_of t) e) ∙ q in absurd cc) i

  variable_takes : (t : TypeNo) {x : Computed} {k : Kind} → IsKind x k
      → Taking t k (value_for_place g rule.NotAssignable types t at x)
  variable_takes t {x = x} {k = k} i = subst (λ (c : Class). Taking t k (suited_in g rule.NotAssignable types t at x c))
      (sym (class_is types t)) (takes_by t (shape_at types t) refl i)

  -- ---- the left side

  data IsTargetOf : Target → Thing → Type 0 where
    target_variable : (t : TypeNo) (d : Place) → IsTargetOf (target.Variable t d) (AVariable t)
    target_open : (t : TypeNo) → IsTargetOf target.Open (AnOpenArray t)

  abbrev pub Takes : Thing × Kind → Type 0
  Takes p = (t : TypeNo) × (p.0 ≡ AVariable t) × MayTake types t p.1

  abbrev pub Refuses : Thing × Kind → Breach → Type 0
  Refuses p f = Untaken types at p.1 p.0 f

  stores : (a : Target) (x : Thing) (v : Computed) (k : Kind) → IsTargetOf a x → IsKind v k
      → Checks g j lawful O {A = TypedStmt} (Takes (x, k)) (Refuses (x, k)) (assignment_to g types a at v)
  stores _ _ v k (target_variable t d) i =
      checks_as g j lawful O (λ m. (t, refl, m)) (λ m. subst (λ (t : TypeNo). MayTake types t k) (sym (same m.1)) m.2)
      (λ f z. z) (λ f z. z) (map_checks g j lawful O (λ a. store_statement t d a) (variable_takes t i))
    where
      same : {t u : TypeNo} → AVariable t ≡ AVariable u → t ≡ u
      same {t = t} e = ap (λ z. elim z [
        | AVariable y ↦ y
        | AValue k ↦ t
        | AType y ↦ t
        | AnOpenArray y ↦ t
        | AProcedure
            y ↦ t
        | ANested y ↦ t
        | AStandard f ↦ t
        | AModule k ↦ t
        | Headless b ↦ t
      ]) e
  stores _ _ v k (target_open t) i = stopped g j lawful O at rule.NotAssignable (λ m. let e = m.1 in absurd cc)
      of_open_array (λ f m. one m)
    where
      one : {f : Breach} → Untaken types at k (AnOpenArray t) f → f ≡ at ! rule.NotAssignable
      one of_open_array = refl

  abbrev NoTarget : Pos → Thing → Breach → Type 0
  NoTarget spot x f = (IsTarget x → ⊥) × (f ≡ spot ! rule.WrongType)

  abbrev TargetSo : Pos → Thing → Result Target g.Reported → Type 0
  TargetSo spot x r = Answers g j O IsTargetOf (λ y. IsTarget x × (y ≡ x)) (NoTarget spot x) r

  missed : {x : Thing} (spot : Pos) → (IsTarget x → ⊥) → TargetSo spot x (report g spot rule.WrongType)
  missed spot n = declined g j lawful O spot rule.WrongType (λ y m. n m.0) (n, refl) (λ f z. z.1)

  targets : (spot : Pos) (a : Designated) (x : Thing) → IsThing a x → TargetSo spot x (target_of g spot a)
  targets spot _ _ (thing_variable t d) =
      means (target.Variable t d) (AVariable t) (target_variable t d) (a_variable, refl) (λ y m. m.1)
      (λ f z. z.0 a_variable)
  targets spot _ _ (thing_open t d) = means target.Open (AnOpenArray t) (target_open t) (an_open_array, refl)
      (λ y m. m.1) (λ f z. z.0 an_open_array)
  targets spot _ _ (thing_value i) = missed spot (λ m. elim m [ ])
  targets spot _ _ (thing_type t) = missed spot (λ m. elim m [ ])
  targets spot _ _ (thing_procedure p) = missed spot (λ m. elim m [ ])
  targets spot _ _ (thing_nested p) = missed spot (λ m. elim m [ ])
  targets spot _ _ (thing_standard p) = missed spot (λ m. elim m [ ])
  targets spot _ _ (thing_module k) = missed spot (λ m. elim m [ ])

  -- both sides
  pub sides_check : {S : Thing → Type 0} {B C : Breach → Type 0} {M : Kind → Type 0}
      {d : Result Designated (Meaningless g.Reported)} {v : Result Computed g.Reported} (spot : Pos)
      → Finds g j lawful O S B d → Answers g j O IsKind M C v
      → Checks g j lawful O ((p : Thing × Kind) × (((x : Thing) × S x × (IsTarget x × (p.0 ≡ x))) × M p.1) × Takes p)
      (λ f. ((B f ⊎ ((x : Thing) × S x × NoTarget spot x f)) ⊎ C f)
      ⊎ ((p : Thing × Kind) × (((x : Thing) × S x × (IsTarget x × (p.0 ≡ x))) × M p.1) × Refuses p f))
      (assignment_of g types (target_at g spot d) at v)
  sides_check spot h a = then_check g j lawful O {P = Takes} {D = Refuses}
      (both_answer g j lawful O (sort_answers g j lawful O {N = λ x y. IsTarget x × (y ≡ x)} {D = NoTarget spot} spot
      rule.WrongType h (targets spot) (λ b. missed spot (λ m. elim m [ ]))) a)
      (λ v p i. stores v.0 p.0 v.1 p.1 i.0 i.1)

-- ---- assignments and conditions

module _ (g : Gathers) (j : Judges g) (lawful : Lawful g j) (names : Ident → Standing) (exports : ℕ → Ident → Standing)
    (s : Scope g.Reported) (knows : Knows g j names exports s) where
  abbrev E : Breach → Type 0
  E = Repeats g j names s

  abbrev H : Expr → Kind → Type 0
  H = Has s.types names exports

  abbrev V : Expr → Breach → Type 0
  V = BrokenAsValue s.types names exports

  pub condition_answers : (e : Expr) → Answers g j E {A = TypedExpr} {K = Unit {0}} (λ v u. Unit {0})
      (λ u. IsCondition s.types names exports e) (BrokenCondition s.types names exports e)
      (value_of g s (meanings_of g e) ▷ value_suited g rule.WrongType s.types boolean (meanings_of g e).fixed.at)
  condition_answers e = checks_answer g j lawful E
      (subst (λ (t : Pos). Checks g j lawful E {A = TypedExpr} (IsCondition s.types names exports e)
      (BrokenCondition s.types names exports e)
      (value_of g s (meanings_of g e) ▷ value_suited g rule.WrongType s.types boolean t)) (sym (at_is g e))
      (checks_as g j lawful E (λ m. is_condition m.1 m.2) parted
      (λ f b. elim b [ inl v ↦ in_condition v | inr m ↦ no_boolean m.1 m.2 ]) out
      (then_check g j lawful E {P = λ k. IsAssignable s.types boolean (operand k)}
      {D = λ k f. Misassigned s.types boolean (first e) rule.WrongType (operand k) f}
      (exactly g j lawful names exports s knows e)
      (λ v k q. value_suits s.types boolean g j lawful E rule.WrongType (first e) q))))
    where
      parted : IsCondition s.types names exports e → (k : Kind) × H e k × IsAssignable s.types boolean (operand k)
      parted (is_condition {k = k} m a) = (k, m, a)

      out : (f : Breach) → BrokenCondition s.types names exports e f → V e f
          ⊎ ((k : Kind) × H e k × Misassigned s.types boolean (first e) rule.WrongType (operand k) f)
      out f (in_condition b) = inl b
      out f (no_boolean {k = k} m z) = inr (k, m, z)

  abbrev D : Designator → Thing → Type 0
  D = Denotes s.types names exports

  abbrev BD : Designator → Breach → Type 0
  BD d = InLayer g j lawful names exports s (layer.Use d None)

  abbrev Sides : Designator → Expr → Type 0
  Sides d e = (p : Thing × Kind) × (((x : Thing) × D d x × (IsTarget x × (p.0 ≡ x))) × H e p.1)
      × ((t : TypeNo) × (p.0 ≡ AVariable t) × MayTake s.types t p.1)

  abbrev SidesFail : Designator → Expr → Breach → Type 0
  SidesFail d e f = ((BD d f ⊎ ((x : Thing) × D d x
      × ((IsTarget x → ⊥) × (f ≡ (out-Designator d).name.pos ! rule.WrongType)))) ⊎ V e f)
      ⊎ ((p : Thing × Kind) × (((x : Thing) × D d x × (IsTarget x × (p.0 ≡ x))) × H e p.1)
      × Untaken s.types (first e) p.1 p.0 f)

  pub assignment_answers : (d : Designator) (e : Expr)
      → Answers g j E {A = TypedStmt} {K = Unit {0}} (λ v u. Unit {0}) (λ u. Assigns s.types names exports d e)
      (BrokenAssignment s.types names exports d e)
      (assignment_of g s.types (target_at g (head g d).fixed.at ((head g d).means s)) (meanings_of g e).fixed.at
      (value_of g s (meanings_of g e)))
  assignment_answers d e = checks_answer g j lawful E
      (subst (λ (t : Pos). Checks g j lawful E {A = TypedStmt} (Assigns s.types names exports d e)
      (BrokenAssignment s.types names exports d e)
      (assignment_of g s.types (target_at g t ((head g d).means s)) (meanings_of g e).fixed.at
      (value_of g s (meanings_of g e)))) (sym (head_at g d))
      (subst (λ (t : Pos). Checks g j lawful E {A = TypedStmt} (Assigns s.types names exports d e)
      (BrokenAssignment s.types names exports d e)
      (assignment_of g s.types (target_at g (out-Designator d).name.pos ((head g d).means s)) t
      (value_of g s (meanings_of g e)))) (sym (at_is g e))
      (checks_as g j lawful E made parted into out
      (sides_check g j lawful E s.types (first e) (out-Designator d).name.pos
      (designator_found g j lawful names exports s knows d) (exactly g j lawful names exports s knows e)))))
    where
      made : Sides d e → Assigns s.types names exports d e
      made (p, ((x, m, (t, q)), h), (u, r, z)) = assigns (subst (D d) (sym q ∙ r) m) h z

      parted : Assigns s.types names exports d e → Sides d e
      parted (assigns {t = t} {k = k} m h z) =
          ((AVariable t, k), ((AVariable t, m, (a_variable, refl)), h), (t, refl, z))

      into : (f : Breach) → SidesFail d e f → BrokenAssignment s.types names exports d e f
      into f (inl (inl (inl (inl z)))) = on_the_left (at_designator z)
      into f (inl (inl (inl (inr (x, m, b))))) = on_the_left (in_designator m b)
      into f (inl (inl (inr (x, m, (n, q))))) =
          subst (BrokenAssignment s.types names exports d e) (sym q) (no_target m n)
      into f (inl (inr v)) = on_the_right v
      into f (inr (p, ((x, m, (t, q)), h), z)) = unassignable (subst (D d) (sym q) m) (subst IsTarget (sym q) t) h z

      left : {f : Breach} → BrokenDesignator s.types names exports d f → BD d f
      left (at_designator z) = inl z
      left (in_designator {x = x} m b) = inr (x, m, b)

      out : (f : Breach) → BrokenAssignment s.types names exports d e f → SidesFail d e f
      out f (on_the_left b) = inl (inl (inl (left b)))
      out f (on_the_right v) = inl (inr v)
      out _ (no_target {x = x} m n) = inl (inl (inr (x, m, (n, refl))))
      out f (unassignable {x = x} {k = k} m t h z) = inr ((x, k), ((x, m, (t, refl)), h), z)
