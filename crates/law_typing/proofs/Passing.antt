-- Arguments are held against formals exactly.
use Rattle.std.proofs.Common.{◌≡◌, ℕ, pos, Bool, true, false, not, List, Option, Some, None, Result, Ok, ◌⊎◌, inl, inr, refl, sym, ap, subst, ◌∙◌}
use Rattle.m2_rule.specs.declared.rule.Rule.{Rule}
use Rattle.m2_rule.specs.declared.rule.Rule.TheVariants as rule
use Rattle.m2_tree.specs.declared.pos.Pos.{Pos}
use Rattle.typed_tree.specs.declared.types.TypeNo.{TypeNo}
use Rattle.typed_tree.specs.declared.computed.Argument.{Argument}
use Rattle.typed_tree.specs.declared.computed.Argument.TheVariants as argument
use Rattle.typed_tree.specs.declared.meaning.Value.TheVariants as value
use Rattle.typed_tree.specs.declared.shape.Formal.{Formal}
use Rattle.typed_tree.specs.declared.shape.Scalar.{Scalar as Range}
use Rattle.typed_tree.specs.declared.shape.Shape.{Shape}
use Rattle.typed_tree.specs.declared.shape.Shape.TheVariants as shape
use Rattle.typed_tree.specs.declared.known_types.Types.{Types}
use Rattle.typed_tree.specs.Known.{scalar_at}
use Rattle.typed_tree.specs.Types.{are_same, char}
use Rattle.m2_rule.specs.declared.breach.Breach.{Breach}
use Rattle.check_scope.specs.declared.meaningless.Meaningless.{Meaningless}
use Rattle.check_scope.specs.Elaborated.{Gathers, report, reported_where}
use Rattle.check_value.specs.declared.class.Class.{Class}
use Rattle.check_value.specs.declared.computed.Computed.{Computed}
use Rattle.check_value.specs.declared.computed.Designated.{Designated}
use Rattle.check_value.specs.Actuals.{starts_at_zero, elements_suit_in, elements_suit, variable_passed, open_passed, text_passed, open_value, whole_passed, simple_passed, passed_as, actual}
use Rattle.check_expr.specs.Meanings.{argument_by}
use Rattle.def_typing.specs.Shapes.{shape_at, IsMade}
use Rattle.def_typing.specs.Amounts.{Within}
use Rattle.def_typing.specs.Operators.{◌!◌, Kind, Text, Whole, operand}
use Rattle.def_typing.specs.Things.{Thing, AValue, AVariable, AnOpenArray, AType, AProcedure, ANested, AStandard, AModule, Headless, content_of, content, Taken, Mistaken, Compatible, OutOfType, IsAssignable, Misassigned}
use Rattle.def_typing.specs.Things as things
use Rattle.def_typing.specs.Functions.{variable_formal, open_variable_formal, value_formal, open_value_formal, HasElements, has_elements, Accepts, variable, array_variable, open_variable, array, open_array, text, whole, compatible, Mispassed, no_variable, no_value, wrong_argument, out_of_range, IsPassed}
use Rattle.law_typing.specs.Judging.{Judges}
use Rattle.law_typing.specs.Exact.{IsKind, kind_constant, kind_scalar, kind_set, kind_routine, kind_procedure, kind_whole, kind_untaken, IsThing, thing_value, thing_variable, thing_open, thing_type, thing_procedure, thing_nested, thing_standard, thing_module}
use Rattle.law_typing.proofs.Combining.{Lawful, Decided, holds, fails_it, decided_as, Checks, passes, stopped, checks_as, map_checks, then_check, Finds, sort_checks, value_checks}
use Rattle.law_typing.proofs.Deciding.{same_decided, within_decided, both_decided, some_same}
use Rattle.law_typing.proofs.Placing.{goes_made, unmade_none, value_suits, taken_answers}
use Rattle.law_typing.proofs.Shaping.{class_of, class_is, array_of, array_is, scalar_of, scalar_is, one_made}

-- ---- what is taken is one value, and is not refused

pub taken_one : (types : Types) (x : Thing) {k l : Kind} → Taken types x k → Taken types x l → l ≡ k
taken_one types (AValue k) p q = q ∙ sym p
taken_one types (AVariable t) p q = q ∙ sym p
taken_one types (AnOpenArray t) p q = q ∙ sym p
taken_one types (AProcedure h) p q = q ∙ sym p
taken_one types (AType t) p q = absurd p
taken_one types (ANested h) p q = absurd p
taken_one types (AStandard f) p q = absurd p
taken_one types (AModule k) p q = absurd p
taken_one types (Headless b) p q = absurd p

pub not_mistaken : (types : Types) (at : Pos) (x : Thing) (k : Kind) (f : Breach) → Taken types x k → Mistaken at x f
    → ⊥
not_mistaken types at (AValue k) l f p m = m
not_mistaken types at (AVariable t) l f p m = m
not_mistaken types at (AnOpenArray t) l f p m = m
not_mistaken types at (AProcedure u) l f p m = m
not_mistaken types at (AType t) l f p m = p
not_mistaken types at (ANested u) l f p m = p
not_mistaken types at (AStandard u) l f p m = p
not_mistaken types at (AModule k) l f p m = p
not_mistaken types at (Headless b) l f p m = p

-- ---- arrays whose least index has number 0

abbrev range_or : Range → Shape → Range
range_or r (shape.Scalar q) = q
range_or r other = r

abbrev index_of : TypeNo → Shape → TypeNo
index_of t (shape.Array i e) = i
index_of t other = t

abbrev element_of : TypeNo → Shape → TypeNo
element_of t (shape.Array i e) = e
element_of t other = t

module _ (types : Types) where
  pub data StartsAtZero (i : TypeNo) : Type 0 where
    starts : {r : Range} → IsMade types i (shape.Scalar r) → Within (pos 0) r.low (pos 0) → StartsAtZero i

  starts_made : {i : TypeNo} (z : Option Shape) → shape_at types i ≡ z → StartsAtZero i → (r : Range)
      × (z ≡ Some (shape.Scalar r)) × Within (pos 0) r.low (pos 0)
  starts_made z e (starts {r = r} m w) = (r, sym e ∙ m, w)

  starts_by : (i : TypeNo) (z : Option Shape) → shape_at types i ≡ z
      → Decided (StartsAtZero i) (starts_at_zero (scalar_of z))
  starts_by i None e = fails_it (λ s. let x = starts_made None e s in let y = x.1 in absurd cc)
  starts_by i (Some (shape.Scalar r)) e = decided_as (starts e) within (within_decided (pos 0) r.low (pos 0))
    where
      within : StartsAtZero i → Within (pos 0) r.low (pos 0)
      within (starts m w) = subst (λ (x : Range). Within (pos 0) x.low (pos 0)) (ap (range_or r) (one_made types i m e))
          w
  starts_by i (Some shape.Set) e = fails_it (λ s. let x = starts_made _ e s in let y = x.1 in absurd cc)
  starts_by i (Some (shape.Array k u)) e = fails_it (λ s. let x = starts_made _ e s in let y = x.1 in absurd cc)
  starts_by i (Some (shape.Record fs)) e = fails_it (λ s. let x = starts_made _ e s in let y = x.1 in absurd cc)
  starts_by i (Some (shape.Procedure h)) e = fails_it (λ s. let x = starts_made _ e s in let y = x.1 in absurd cc)
  starts_by i (Some (shape.Open u)) e = fails_it (λ s. let x = starts_made _ e s in let y = x.1 in absurd cc)

  starts_decided : (i : TypeNo) → Decided (StartsAtZero i) (starts_at_zero (scalar_at types i))
  starts_decided i = subst (λ (r : Option Range). Decided (StartsAtZero i) (starts_at_zero r)) (sym (scalar_is types i))
      (starts_by i (shape_at types i) refl)

  elements_made : {t u : TypeNo} (z : Option Shape) → shape_at types u ≡ z → HasElements types t u → (i : TypeNo)
      × (z ≡ Some (shape.Array i t)) × StartsAtZero i
  elements_made z e (has_elements {i = i} m n w) = (i, sym e ∙ m, starts n w)

  of_elements : {i t u : TypeNo} → IsMade types u (shape.Array i t) → StartsAtZero i → HasElements types t u
  of_elements m (starts n w) = has_elements m n w

  elements_by : (t u : TypeNo) (z : Option Shape) → shape_at types u ≡ z
      → Decided (HasElements types t u) (elements_suit_in types t (array_of z))
  elements_by t u None e = fails_it (λ s. let x = elements_made None e s in let y = x.1 in absurd cc)
  elements_by t u (Some (shape.Array i d)) e =
      decided_as (λ p. of_elements (subst (λ (d : TypeNo). IsMade types u (shape.Array i d)) p.0 e) p.1) parts
      (both_decided (same_decided d t) (starts_decided i))
    where
      parts : HasElements types t u → (d ≡ t) × StartsAtZero i
      parts h = let x = elements_made _ e h in let same : shape.Array i d ≡ shape.Array x.0 t = some_same _ _ x.1 in
          (ap (element_of d) same, subst StartsAtZero (sym (ap (index_of i) same)) x.2)
  elements_by t u (Some shape.Set) e = fails_it (λ s. let x = elements_made _ e s in let y = x.1 in absurd cc)
  elements_by t u (Some (shape.Scalar r)) e = fails_it (λ s. let x = elements_made _ e s in let y = x.1 in absurd cc)
  elements_by t u (Some (shape.Record fs)) e = fails_it (λ s. let x = elements_made _ e s in let y = x.1 in absurd cc)
  elements_by t u (Some (shape.Procedure h)) e = fails_it (λ s. let x = elements_made _ e s in let y = x.1 in absurd cc)
  elements_by t u (Some (shape.Open d)) e = fails_it (λ s. let x = elements_made _ e s in let y = x.1 in absurd cc)

  elements_decided : (t u : TypeNo) → Decided (HasElements types t u) (elements_suit types t u)
  elements_decided t u = subst (λ (a : Option (TypeNo × TypeNo)). Decided (HasElements types t u)
      (elements_suit_in types t a)) (sym (array_is types u)) (elements_by t u (shape_at types u) refl)

-- ---- the answers

module _ (g : Gathers) (j : Judges g) (lawful : Lawful g j) (O : Breach → Type 0) (types : Types) (at : Pos) where
  abbrev pub Passes : Formal → Thing → Result Argument g.Reported → Type 0
  Passes f x r = Checks g j lawful O (IsPassed types f x) (Mispassed types at f x) r

  -- VAR formals
  abbrev var : Bool → TypeNo → Formal
  var o t = record { is_var = true; is_open = o; of = t }

  var_unrefused : {o : Bool} {t : TypeNo} {x : Thing} → Accepts types (var o t) x → (at : Pos) (f : Breach)
      → Mispassed types at (var o t) x f → ⊥
  var_unrefused a at _ (no_variable n) = n a

  var_passes : {o : Bool} {t : TypeNo} {x : Thing} (e : Argument) → Accepts types (var o t) x
      → Passes (var o t) x (Ok e)
  var_passes e a = passes e (record { accepted = a; unrefused = var_unrefused a }) (λ f m. var_unrefused a at f m)

  var_stops : {o : Bool} {t : TypeNo} {x : Thing} → (Accepts types (var o t) x → ⊥)
      → Passes (var o t) x (report g at rule.NoVariable)
  var_stops {o = o} {t = t} {x = x} n = stopped g j lawful O at rule.NoVariable (λ p. n p.accepted) (no_variable n)
      (λ f m. one m)
    where
      one : {f : Breach} → Mispassed types at (var o t) x f → f ≡ at ! rule.NoVariable
      one (no_variable m) = refl

  var_where : {P : Type 0} {o : Bool} {t : TypeNo} {x : Thing} (e : Argument) (b : Bool) → Decided P b
      → (P → Accepts types (var o t) x) → (Accepts types (var o t) x → P)
      → Passes (var o t) x (reported_where g (not b) at rule.NoVariable (Ok e))
  var_where e _ (holds p) f h = var_passes e (f p)
  var_where e _ (fails_it n) f h = var_stops (λ a. n (h a))

  same_variable : {t u : TypeNo} → Accepts types (variable_formal t) (AVariable u) → u ≡ t
  same_variable variable = refl

  variable_passes : (t : TypeNo) (a : Designated) (x : Thing) → IsThing a x
      → Passes (variable_formal t) x (variable_passed g t at a)
  variable_passes t _ _ (thing_variable u d) =
      var_where _ (are_same u t) (same_decided u t)
      (λ e. subst (λ (u : TypeNo). Accepts types (variable_formal t) (AVariable u)) (sym e) variable) same_variable
  variable_passes t _ _ (thing_value i) = var_stops (λ a. elim a [ ])
  variable_passes t _ _ (thing_open u s) = var_stops (λ a. elim a [ ])
  variable_passes t _ _ (thing_type u) = var_stops (λ a. elim a [ ])
  variable_passes t _ _ (thing_procedure p) = var_stops (λ a. elim a [ ])
  variable_passes t _ _ (thing_nested p) = var_stops (λ a. elim a [ ])
  variable_passes t _ _ (thing_standard p) = var_stops (λ a. elim a [ ])
  variable_passes t _ _ (thing_module k) = var_stops (λ a. elim a [ ])

  of_array_variable : {t u : TypeNo} → Accepts types (open_variable_formal t) (AVariable u) → HasElements types t u
  of_array_variable (array_variable h) = h

  of_open_variable : {t u : TypeNo} → Accepts types (open_variable_formal t) (AnOpenArray u) → u ≡ t
  of_open_variable open_variable = refl

  open_passes : (t : TypeNo) (a : Designated) (x : Thing) → IsThing a x
      → Passes (open_variable_formal t) x (open_passed g types t at a)
  open_passes t _ _ (thing_variable u d) =
      var_where _ (elements_suit types t u) (elements_decided types t u) array_variable of_array_variable
  open_passes t _ _ (thing_open u s) = var_where _ (are_same u t) (same_decided u t)
      (λ e. subst (λ (u : TypeNo). Accepts types (open_variable_formal t) (AnOpenArray u)) (sym e) open_variable)
      of_open_variable
  open_passes t _ _ (thing_value i) = var_stops (λ a. elim a [ ])
  open_passes t _ _ (thing_type u) = var_stops (λ a. elim a [ ])
  open_passes t _ _ (thing_procedure p) = var_stops (λ a. elim a [ ])
  open_passes t _ _ (thing_nested p) = var_stops (λ a. elim a [ ])
  open_passes t _ _ (thing_standard p) = var_stops (λ a. elim a [ ])
  open_passes t _ _ (thing_module k) = var_stops (λ a. elim a [ ])

  -- ARRAY OF by value
  abbrev IsValue : Thing → Type 0
  IsValue x = (k : Kind) × Taken types x k

  value_unrefused : {t : TypeNo} {x : Thing} → IsValue x → Accepts types (open_value_formal t) x
      → (at : Pos) (f : Breach) → Mispassed types at (open_value_formal t) x f → ⊥
  value_unrefused {x = x} p a at f (no_value m) = not_mistaken types at x p.0 f p.1 m
  value_unrefused p a at _ (wrong_argument k q n) = n a

  value_passes : {t : TypeNo} {x : Thing} (e : Argument) → IsValue x → Accepts types (open_value_formal t) x
      → Passes (open_value_formal t) x (Ok e)
  value_passes e p a = passes e (record { accepted = a; unrefused = value_unrefused p a })
      (λ f m. value_unrefused p a at f m)

  value_stops : {t : TypeNo} {x : Thing} → IsValue x → (Accepts types (open_value_formal t) x → ⊥)
      → Passes (open_value_formal t) x (report g at rule.WrongArgument)
  value_stops {t = t} {x = x} p n = stopped g j lawful O at rule.WrongArgument (λ a. n a.accepted)
      (wrong_argument p.0 p.1 n) (λ f m. one m)
    where
      one : {f : Breach} → Mispassed types at (open_value_formal t) x f → f ≡ at ! rule.WrongArgument
      one {f = f} (no_value m) = absurd (not_mistaken types at x p.0 f p.1 m)
      one (wrong_argument k q m) = refl

  value_where : {P : Type 0} {t : TypeNo} {x : Thing} (e : Argument) (b : Bool) → IsValue x → Decided P b
      → (P → Accepts types (open_value_formal t) x) → (Accepts types (open_value_formal t) x → P)
      → Passes (open_value_formal t) x (reported_where g (not b) at rule.WrongArgument (Ok e))
  value_where e _ p (holds q) f h = value_passes e p (f q)
  value_where e _ p (fails_it n) f h = value_stops p (λ a. n (h a))

  of_array : {t u : TypeNo} → Accepts types (open_value_formal t) (AVariable u) → HasElements types t u
  of_array (array h) = h

  of_open : {t u : TypeNo} → Accepts types (open_value_formal t) (AnOpenArray u) → u ≡ t
  of_open open_array = refl

  of_text : {t : TypeNo} {s : List ℕ} → Accepts types (open_value_formal t) (AValue (Text s)) → t ≡ char
  of_text text = refl

  no_text : (t : TypeNo) (k : Kind) → ((s : List ℕ) → k ≡ Text s → ⊥) → Accepts types (open_value_formal t) (AValue k)
      → ⊥
  no_text _ _ n (text {s = s}) = n s refl

  text_passes : (t : TypeNo) {x : Computed} {k : Kind} → IsKind x k
      → Passes (open_value_formal t) (AValue k) (text_passed g t at x)
  text_passes t (kind_constant (value.Number n)) = value_stops (_, refl) (no_text t _ (λ s q. absurd cc))
  text_passes t (kind_constant (value.Scalar s)) = value_stops (_, refl) (no_text t _ (λ s q. absurd cc))
  text_passes t (kind_constant (value.Set bits)) = value_stops (_, refl) (no_text t _ (λ s q. absurd cc))
  text_passes t (kind_constant (value.Text s)) =
      value_where _ (are_same t char) (_, refl) (same_decided t char)
      (λ e. subst (λ (t : TypeNo). Accepts types (open_value_formal t) (AValue (Text s))) (sym e) text) of_text
  text_passes t (kind_scalar u b e) = value_stops (_, refl) (no_text t _ (λ s q. absurd cc))
  text_passes t (kind_set e) = value_stops (_, refl) (no_text t _ (λ s q. absurd cc))
  text_passes t (kind_routine u e) = value_stops (_, refl) (no_text t _ (λ s q. absurd cc))
  text_passes t (kind_procedure p) = value_stops (_, refl) (no_text t _ (λ s q. absurd cc))
  text_passes t (kind_whole u d) = value_stops (_, refl) (no_text t _ (λ s q. absurd cc))
  text_passes t kind_untaken = value_stops (_, refl) (no_text t _ (λ s q. absurd cc))

  -- what is no value is refused for that
  unvalued_one : (o : Bool) (t : TypeNo) (x : Thing) (f : Breach) (broken : Rule) → ((k : Kind) → Taken types x k → ⊥)
      → ((f : Breach) → Mistaken at x f → f ≡ at ! broken)
      → Mispassed types at (record { is_var = false; is_open = o; of = t }) x f → f ≡ at ! broken
  unvalued_one o t x f broken n only (no_value m) = only f m
  unvalued_one o t x _ broken n only (wrong_argument k p q) = absurd (n k p)
  unvalued_one _ t x _ broken n only (out_of_range k p c q) = absurd (n k p)

  unvalued : {o : Bool} {t : TypeNo} {x : Thing} (broken : Rule) → ((k : Kind) → Taken types x k → ⊥)
      → (Accepts types (record { is_var = false; is_open = o; of = t }) x → ⊥) → Mistaken at x (at ! broken)
      → ((f : Breach) → Mistaken at x f → f ≡ at ! broken)
      → Passes (record { is_var = false; is_open = o; of = t }) x (report g at broken)
  unvalued {o = o} {t = t} {x = x} broken n a m only =
      stopped g j lawful O at broken (λ p. a p.accepted) (no_value m) (λ f m. unvalued_one o t x f broken n only m)

  unopened : (t : TypeNo) (x : Thing) → ((u : TypeNo) → x ≡ AVariable u → ⊥) → ((u : TypeNo) → x ≡ AnOpenArray u → ⊥)
      → ((k : Kind) → x ≡ AValue k → ⊥) → Accepts types (open_value_formal t) x → ⊥
  unopened _ _ n m q (array {u = u} h) = n u refl
  unopened _ _ n m q (open_array {t = t}) = m t refl
  unopened _ _ n m q (text {s = s}) = q (Text s) refl

  open_value_passes : (t : TypeNo) (a : Designated) (x : Thing) → IsThing a x
      → Passes (open_value_formal t) x (open_value g types t at a)
  open_value_passes t _ _ (thing_variable u d) =
      value_where _ (elements_suit types t u) (_, refl) (elements_decided types t u) array of_array
  open_value_passes t _ _ (thing_open u s) =
      value_where _ (are_same u t) (_, refl) (same_decided u t)
      (λ e. subst (λ (u : TypeNo). Accepts types (open_value_formal t) (AnOpenArray u)) (sym e) open_array) of_open
  open_value_passes t _ _ (thing_value i) = text_passes t i
  open_value_passes t _ _ (thing_type u) =
      unvalued rule.WrongType (λ k p. p) (unopened t _ (λ u q. absurd cc) (λ u q. absurd cc) (λ k q. absurd cc)) refl
      (λ f m. m)
  open_value_passes t _ _ (thing_procedure p) =
      value_stops (_, refl) (unopened t _ (λ u q. absurd cc) (λ u q. absurd cc) (λ k q. absurd cc))
  open_value_passes t _ _ (thing_nested p) =
      unvalued rule.NoProcedureValue (λ k p. p) (unopened t _ (λ u q. absurd cc) (λ u q. absurd cc) (λ k q. absurd cc))
      refl (λ f m. m)
  open_value_passes t _ _ (thing_standard p) =
      unvalued rule.NoProcedureValue (λ k p. p) (unopened t _ (λ u q. absurd cc) (λ u q. absurd cc) (λ k q. absurd cc))
      refl (λ f m. m)
  open_value_passes t _ _ (thing_module k) =
      unvalued rule.WrongType (λ k p. p) (unopened t _ (λ u q. absurd cc) (λ u q. absurd cc) (λ k q. absurd cc)) refl
      (λ f m. m)

  -- arrays and records by value
  module _ (t : TypeNo) (structured : content types t ≡ Whole t) (unmade : (k : Kind) → Compatible types t k → ⊥) where
    whole_accepts : {x : Thing} → Accepts types (value_formal t) x → x ≡ AVariable t
    whole_accepts (whole e) = refl
    whole_accepts (compatible k p c) = absurd (unmade (operand k) c)

    whole_unrefused : {x : Thing} → IsValue x → Accepts types (value_formal t) x → (at : Pos) (f : Breach)
        → Mispassed types at (value_formal t) x f → ⊥
    whole_unrefused {x = x} p a at f (no_value m) = not_mistaken types at x p.0 f p.1 m
    whole_unrefused p a at _ (wrong_argument k q n) = n a
    whole_unrefused p a at _ (out_of_range k q c o) = unmade (operand k) c

    whole_stops : {x : Thing} → IsValue x → (x ≡ AVariable t → ⊥)
        → Passes (value_formal t) x (report g at rule.WrongArgument)
    whole_stops {x = x} p n = stopped g j lawful O at rule.WrongArgument (λ a. n (whole_accepts a.accepted))
        (wrong_argument p.0 p.1 (λ a. n (whole_accepts a))) (λ f m. one m)
      where
        one : {f : Breach} → Mispassed types at (value_formal t) x f → f ≡ at ! rule.WrongArgument
        one {f = f} (no_value m) = absurd (not_mistaken types at x p.0 f p.1 m)
        one (wrong_argument k q m) = refl
        one (out_of_range k q c o) = absurd (unmade (operand k) c)

    whole_where : {u : TypeNo} (e : Argument) (b : Bool) → Decided (u ≡ t) b
        → Passes (value_formal t) (AVariable u) (reported_where g (not b) at rule.WrongArgument (Ok e))
    whole_where {u = u} e _ (holds q) = let a =
        subst (λ (u : TypeNo). Accepts types (value_formal t) (AVariable u)) (sym q) (whole structured) in
        passes e (record { accepted = a; unrefused = whole_unrefused (_, refl) a })
        (λ f m. whole_unrefused (_, refl) a at f m)
    whole_where e _ (fails_it n) = whole_stops (_, refl) (λ q. n (variable_same q))
      where
        variable_same : {u v : TypeNo} → AVariable u ≡ AVariable v → u ≡ v
        variable_same {u = u} q = ap (λ x. elim x [
          | AVariable w ↦ w
          | AValue k ↦ u
          | AnOpenArray w ↦ u
          | AType w ↦ u
          | AProcedure w ↦ u
          | ANested w ↦ u
          | AStandard f ↦ u
          | AModule k ↦ u
          | Headless b ↦ u
        ]) q

    whole_passes : (a : Designated) (x : Thing) → IsThing a x → Passes (value_formal t) x (whole_passed g t at a)
    whole_passes _ _ (thing_variable u d) = whole_where _ (are_same u t) (same_decided u t)
    whole_passes _ _ (thing_value i) = whole_stops (_, refl) (λ e. absurd cc)
    whole_passes _ _ (thing_open u s) = whole_stops (_, refl) (λ e. absurd cc)
    whole_passes _ _ (thing_type u) = unvalued rule.WrongType (λ k p. p) (λ a. let e = whole_accepts a in absurd cc)
        refl (λ f m. m)
    whole_passes _ _ (thing_procedure p) = whole_stops (_, refl) (λ e. absurd cc)
    whole_passes _ _ (thing_nested p) = unvalued rule.NoProcedureValue (λ k p. p)
        (λ a. let e = whole_accepts a in absurd cc) refl (λ f m. m)
    whole_passes _ _ (thing_standard p) = unvalued rule.NoProcedureValue (λ k p. p)
        (λ a. let e = whole_accepts a in absurd cc) refl (λ f m. m)
    whole_passes _ _ (thing_module k) = unvalued rule.WrongType (λ k p. p) (λ a. let e = whole_accepts a in absurd cc)
        refl (λ f m. m)

  -- other types
  module _ (t : TypeNo) (simple : content types t ≡ Whole t → ⊥) where
    abbrev SimpleFails : Thing → Breach → Type 0
    SimpleFails x f = Mistaken at x f ⊎ ((k : Kind) × Taken types x k
        × Misassigned types t at rule.WrongArgument (operand k) f)

    simple_accepts : {x : Thing} → Accepts types (value_formal t) x → (k : Kind) × Taken types x k
        × Compatible types t (operand k)
    simple_accepts (whole e) = absurd (simple e)
    simple_accepts (compatible k p c) = (k, p, c)

    simple_passed_by : {x : Thing} → (k : Kind) × Taken types x k × IsAssignable types t (operand k)
        → IsPassed types (value_formal t) x
    simple_passed_by {x = x} (k, p, a) = record {
      accepted = compatible k p a.compatible;
      unrefused =
          λ at f m. none at f m;
    }
      where
        none : (at : Pos) (f : Breach) → Mispassed types at (value_formal t) x f → ⊥
        none at f (no_value m) = not_mistaken types at x k f p m
        none at _ (wrong_argument l q n) = n (compatible k p a.compatible)
        none at _ (out_of_range l q c o) = a.in_type
            (subst (λ (c : Kind). OutOfType types t (operand c)) (taken_one types x p q) o)

    by_simple_passed : {x : Thing} → IsPassed types (value_formal t) x → (k : Kind) × Taken types x k
        × IsAssignable types t (operand k)
    by_simple_passed p = let a = simple_accepts p.accepted in (
      a.0,
      a.1,
      record {
        compatible = a.2;
        in_type =
            λ o. p.unrefused at (at ! rule.OutOfRange) (out_of_range a.0 a.1 a.2 o);
      },
    )

    simple_refused : {x : Thing} (f : Breach) → SimpleFails x f → Mispassed types at (value_formal t) x f
    simple_refused f (inl m) = no_value m
    simple_refused {x = x} _ (inr (k, p, things.incompatible n)) =
        wrong_argument k p (λ a. let b = simple_accepts a in
        n (subst (λ (c : Kind). Compatible types t (operand c)) (taken_one types x p b.1) b.2))
    simple_refused _ (inr (k, p, things.out_of_range c o)) = out_of_range k p c o

    by_simple_refused : {x : Thing} (f : Breach) → Mispassed types at (value_formal t) x f → SimpleFails x f
    by_simple_refused f (no_value m) = inl m
    by_simple_refused _ (wrong_argument k p n) = inr (k, p, things.incompatible (λ c. n (compatible k p c)))
    by_simple_refused _ (out_of_range k p c o) = inr (k, p, things.out_of_range c o)

    simple_passes : (a : Designated) (x : Thing) → IsThing a x
        → Passes (value_formal t) x (simple_passed g types t at a)
    simple_passes a x i = checks_as g j lawful O simple_passed_by by_simple_passed simple_refused by_simple_refused
        (then_check g j lawful O {P = λ k. IsAssignable types t (operand k)}
        {D = λ k f. Misassigned types t at rule.WrongArgument (operand k) f}
        (taken_answers g j lawful O types at a x i)
        (λ v k q. map_checks g j lawful O (λ e. argument.Value t e)
        (value_suits types t g j lawful O rule.WrongArgument at q)))

  -- ---- all formals

  passes_by : (t : TypeNo) (z : Option Shape) → shape_at types t ≡ z → (a : Designated) (x : Thing) → IsThing a x
      → Passes (value_formal t) x (passed_as g types t at a (class_of z))
  passes_by t None e a x i = whole_passes t (ap (content_of t) e) (λ k c. unmade_none types t e c) a x i
  passes_by t (Some (shape.Array k u)) e a x i =
      whole_passes t (ap (content_of t) e) (λ k c. elim (goes_made types t c e) [ ]) a x i
  passes_by t (Some (shape.Record fs)) e a x i =
      whole_passes t (ap (content_of t) e) (λ k c. elim (goes_made types t c e) [ ]) a x i
  passes_by t (Some (shape.Open u)) e a x i =
      whole_passes t (ap (content_of t) e) (λ k c. elim (goes_made types t c e) [ ]) a x i
  passes_by t (Some (shape.Scalar r)) e a x i =
      simple_passes t (λ q. let z = sym (ap (content_of t) e) ∙ q in absurd cc) a x i
  passes_by t (Some shape.Set) e a x i = simple_passes t (λ q. let z = sym (ap (content_of t) e) ∙ q in absurd cc) a x i
  passes_by t (Some (shape.Procedure h)) e a x i =
      simple_passes t (λ q. let z = sym (ap (content_of t) e) ∙ q in absurd cc) a x i

  pub actual_passes : (v o : Bool) (t : TypeNo) (a : Designated) (x : Thing) → IsThing a x → let f : Formal =
      record { is_var = v; is_open = o; of = t } in Passes f x (actual g types f at a)
  actual_passes true true t a x i = open_passes t a x i
  actual_passes true false t a x i = variable_passes t a x i
  actual_passes false true t a x i = open_value_passes t a x i
  actual_passes false false t a x i = subst (λ (c : Class). Passes (value_formal t) x (passed_as g types t at a c))
      (sym (class_is types t)) (passes_by t (shape_at types t) refl a x i)

  -- an argument, whatever it stands for
  abbrev pub PassesSo : (Thing → Type 0) → (Breach → Type 0) → Formal → Result Argument g.Reported → Type 0
  PassesSo S B f r = Checks g j lawful O ((x : Thing) × S x × IsPassed types f x)
      (λ h. B h ⊎ ((x : Thing) × S x × Mispassed types at f x h)) r

  headless_value : (b o : Bool) (t : TypeNo)
      → Accepts types (record { is_var = false; is_open = o; of = t }) (Headless b) → ⊥
  headless_value b _ t (compatible k p c) = p

  headless_unsaid : (o : Bool) (t : TypeNo) (f : Breach)
      → Mispassed types at (record { is_var = false; is_open = o; of = t }) (Headless false) f → ⊥
  headless_unsaid o t f (no_value m) = m
  headless_unsaid o t _ (wrong_argument k p n) = p
  headless_unsaid _ t _ (out_of_range k p c q) = p

  headless_nested : (o : Bool) (t : TypeNo) (f : Breach)
      → Mispassed types at (record { is_var = false; is_open = o; of = t }) (Headless true) f
      → f ≡ at ! rule.NoProcedureValue
  headless_nested o t f (no_value m) = m
  headless_nested o t _ (wrong_argument k p n) = absurd p
  headless_nested _ t _ (out_of_range k p c q) = absurd p

  headless_variable : (b o : Bool) (t : TypeNo)
      → Accepts types (record { is_var = true; is_open = o; of = t }) (Headless b) → ⊥
  headless_variable b o t a = elim a [ ]

  argument_by_mode : {S : Thing → Type 0} {B : Breach → Type 0} {d : Result Designated (Meaningless g.Reported)}
      (v o : Bool) (t : TypeNo) → Finds g j lawful O S B d → let f : Formal =
      record { is_var = v; is_open = o; of = t } in PassesSo S B f (argument_by g types (Some f) at d)
  argument_by_mode true o t h = sort_checks g j lawful O at rule.NoVariable h (actual_passes true o t)
      (λ b. var_stops (headless_variable b o t))
  argument_by_mode false o t h = value_checks g j lawful O at h (actual_passes false o t)
      (λ p. headless_value false o t p.accepted) (headless_unsaid o t)
      (stopped g j lawful O at rule.NoProcedureValue (λ p. headless_value true o t p.accepted) (no_value refl)
      (headless_nested o t))

  pub argument_passes : {S : Thing → Type 0} {B : Breach → Type 0} {d : Result Designated (Meaningless g.Reported)}
      (f : Formal) → Finds g j lawful O S B d → PassesSo S B f (argument_by g types (Some f) at d)
  argument_passes f h = argument_by_mode f.is_var f.is_open f.of h
