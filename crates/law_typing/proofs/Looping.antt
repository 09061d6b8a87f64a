-- What stands before the statements of a FOR is answered exactly.
use Rattle.std.proofs.Common.{◌≡◌, ℕ, zero, suc, ℤ, pos, negsuc, Bool, true, false, not, Option, Some, None, Result, Ok, ◌⊎◌, inl, inr, refl, sym, ap, subst, ◌∙◌, arith}
use Rattle.std.specs.Prelude.{◌&&◌, ◌||◌, ◌==◌, nat_lt}
use Rattle.std.proofs.lemmas.Bool.Decides.{nat_tests}
use Rattle.m2_rule.specs.declared.breach.Breach.{Breach}
use Rattle.m2_rule.specs.declared.rule.Rule.TheVariants as rule
use Rattle.m2_tree.specs.declared.pos.Pos.{Pos}
use Rattle.m2_tree.specs.declared.name.Ident.{Ident}
use Rattle.m2_tree.specs.declared.expr.Expr.{Expr}
use Rattle.typed_tree.specs.declared.types.TypeNo.{TypeNo}
use Rattle.typed_tree.specs.declared.computed.Place.{Place}
use Rattle.typed_tree.specs.declared.computed.TypedExpr.{TypedExpr}
use Rattle.typed_tree.specs.declared.meaning.LocalKind.{LocalKind}
use Rattle.typed_tree.specs.declared.meaning.LocalKind.TheVariants as local
use Rattle.typed_tree.specs.declared.meaning.Meaning.{Meaning}
use Rattle.typed_tree.specs.declared.meaning.Meaning.TheVariants as meaning
use Rattle.typed_tree.specs.declared.meaning.Value.{Value as ConstantValue}
use Rattle.typed_tree.specs.declared.shape.Scalar.{Scalar as Range}
use Rattle.typed_tree.specs.declared.shape.Shape.{Shape}
use Rattle.typed_tree.specs.declared.shape.Shape.TheVariants as shape
use Rattle.check_scope.specs.declared.meaningless.Meaningless.{Meaningless}
use Rattle.check_scope.specs.declared.scope.Scope.{Scope}
use Rattle.check_scope.specs.Scopes.{looked_up}
use Rattle.check_scope.specs.Elaborated.{Gathers, report, reported_where, of_sort, ◌▷◌}
use Rattle.check_const.specs.declared.operand.Ordinal.{Ordinal}
use Rattle.check_const.specs.Numbers.{fits}
use Rattle.check_const.specs.Sets.{ordinal_or_refusal}
use Rattle.check_const.specs.Standards.{whole_number}
use Rattle.check_const.specs.Parts.{constant}
use Rattle.check_value.specs.declared.class.Class.{Class}
use Rattle.check_value.specs.declared.computed.Computed.{Computed}
use Rattle.check_value.specs.declared.side.Amount.TheVariants.{Known as KnownSide, Run}
use Rattle.check_value.specs.declared.side.Side.{Side}
use Rattle.check_value.specs.Sides.{side_of}
use Rattle.check_value.specs.Suits.{sort_suits, bases_suit, value_suited}
use Rattle.check_expr.specs.Meanings.{meanings_of, value_of}
use Rattle.check_stmt_parts.specs.declared.control.Control.{Control}
use Rattle.check_stmt_parts.specs.declared.control.Course.{Course}
use Rattle.check_stmt_parts.specs.Simple.{meant_if}
use Rattle.check_stmt_parts.specs.Control.{controlled_as, control_variable, is_own, control_by, control_of, start_at, limit_number, limit_by, limit_at, is_zero, step_number, step_by, step_of, type_of, base_of, course_of}
use Rattle.def_typing.specs.Shapes.{shape_at, IsMade}
use Rattle.def_typing.specs.Amounts.{Constant, Value, IsNumber, InRange, Suits, has_type, is_value, takes_type}
use Rattle.def_typing.specs.Amounts as amounts
use Rattle.def_typing.specs.Operators.{◌!◌, Kind, Scalar, operand}
use Rattle.def_typing.specs.Things.{Thing, AVariable, Standing, Known, Ahead, Undeclared, Unknown, Misnamed, undeclared, not_yet, SuitsBase, IsAssignable, Misassigned}
use Rattle.def_typing.specs.Parts.{first}
use Rattle.def_typing.specs.Constants.{AConstant, Fixes}
use Rattle.def_typing.specs.Expressions.{Has, BrokenAsValue, BrokenAsConstant}
use Rattle.def_typing.specs.Loops as rules
use Rattle.def_typing.specs.Loops.{SuitsLimit, IsOfBase, IsLimit, Mislimits, no_limit, not_in_base, IsWholeConstant, whole_constant, IsStep, is_step, Missteps, no_step, step_zero, IsControl, is_control, BrokenControl, no_name, no_control, HasStep, by_one, by_constant, Runs, runs, BrokenRun}
use Rattle.law_typing.specs.Judging.{Judges, Answers, means, refuses}
use Rattle.law_typing.specs.Exact.{IsKind, IsConst, of_local, standing, Sees, sees, sees_nothing, sees_headless, sees_unknown, Knows, Repeats, of_declaration, is_own_variable, KnowsOwn}
use Rattle.law_typing.proofs.Combining.{Lawful, Decided, holds, fails_it, accounts_as, accounts_one, declined, both_answer, Checks, passes, stops, stopped, checks_as, both_checks, map_checks, then_check}
use Rattle.law_typing.proofs.Deciding.{range_decided}
use Rattle.law_typing.proofs.Joining.{IsSide, side_scalar, side_set, side_routine, side_procedure, side_text, side_whole, side_untaken, side_is}
use Rattle.law_typing.proofs.Placing.{value_suits, base_decided, bases_decided, whole_base}
use Rattle.law_typing.proofs.Places.{at_is}
use Rattle.law_typing.proofs.Shaping.{class_of, class_is, one_made}
use Rattle.law_typing.proofs.Selecting.{known_one}
use Rattle.law_typing.proofs.Elements.{checks_answer, IsOrdinal, is_ordinal, NumberOf, number_answers, one_meaning}
use Rattle.law_typing.proofs.Expressing.{exactly, exactly_fixed}

-- ---- limits

module _ (g : Gathers) (j : Judges g) (lawful : Lawful g j) (O : Breach → Type 0) (base : TypeNo) (at : Pos) where
  abbrev LimitSo : Kind → Result TypedExpr g.Reported → Type 0
  LimitSo k r = Checks g j lawful O (IsLimit base k) (λ f. Mislimits base at k f) r

  limit_not : {k : Kind} → (SuitsLimit base k → ⊥) → LimitSo k (report g at rule.NotAssignable)
  limit_not {k = k} n = stopped g j lawful O at rule.NotAssignable (λ m. n m.suits) (no_limit n) (λ f z. one z)
    where
      one : {f : Breach} → Mislimits base at k f → f ≡ at ! rule.NotAssignable
      one (no_limit q) = refl
      one (not_in_base s q) = absurd (n s)

  limit_well : {k : Kind} (e : TypedExpr) → SuitsLimit base k → IsOfBase base k → LimitSo k (Ok e)
  limit_well {k = k} e s i = passes e (record { suits = s; in_base = i }) (λ f z. none z)
    where
      none : {f : Breach} → Mislimits base at k f → ⊥
      none (no_limit q) = q s
      none (not_in_base c q) = q i

  limit_beyond : {k : Kind} → SuitsLimit base k → (IsOfBase base k → ⊥) → LimitSo k (report g at rule.OutOfRange)
  limit_beyond {k = k} s n = stopped g j lawful O at rule.OutOfRange (λ m. n m.in_base) (not_in_base s n) (λ f z. one z)
    where
      one : {f : Breach} → Mislimits base at k f → f ≡ at ! rule.OutOfRange
      one (no_limit q) = absurd (q s)
      one (not_in_base c q) = refl

  in_range_of : {n : ℤ} → Suits (Some base) (Constant None n) → InRange (Some base) n
  in_range_of (takes_type i) = i

  number_by : (n : ℤ) (e : TypedExpr) (b : Bool) → SuitsBase base None → Decided (InRange (Some base) n) b
      → LimitSo (Scalar (Constant None n)) (reported_where g (not b) at rule.OutOfRange (Ok e))
  number_by n e _ s (holds i) = limit_well e s (takes_type i)
  number_by n e _ s (fails_it q) = limit_beyond s (λ i. q (in_range_of i))

  number_limit : (n : ℤ) (sort : Option TypeNo) → SuitsBase base sort
      → LimitSo (Scalar (Constant sort n)) (limit_number g base at n sort)
  number_limit n None s = number_by n _ (fits (Some base) n) s (range_decided n (amounts.whole (whole_base s)))
  number_limit n (Some t) s = limit_well _ s has_type

  where_limit : {k : Kind} {r : Result TypedExpr g.Reported} (b : Bool) → Decided (SuitsLimit base k) b
      → (SuitsLimit base k → LimitSo k r) → LimitSo k (reported_where g (not b) at rule.NotAssignable r)
  where_limit _ (holds s) h = h s
  where_limit _ (fails_it n) h = limit_not n

  side_limits : {p : Option Side} {k : Kind} → IsSide p k → LimitSo k (limit_by g base at p)
  side_limits (side_scalar (KnownSide a)) =
      where_limit (sort_suits base a.sort) (base_decided base a.sort) (λ s. number_limit a.number a.sort s)
  side_limits (side_scalar (Run b e)) = where_limit (bases_suit base b) (bases_decided base b)
      (λ s. limit_well e s is_value)
  side_limits (side_set m e) = limit_not (λ s. s)
  side_limits (side_routine t e) = limit_not (λ s. s)
  side_limits (side_procedure q) = limit_not (λ s. s)
  side_limits (side_text text) = limit_not (λ s. s)
  side_limits (side_whole t) = limit_not (λ s. s)
  side_limits side_untaken = limit_not (λ s. s)

  pub value_limits : {x : Computed} {k : Kind} → IsKind x k → LimitSo (operand k) (limit_by g base at (side_of x))
  value_limits i = side_limits (side_is i)

-- ---- steps

above_zero : (n : ℕ) → nat_lt 0 (suc n) ≡ true
above_zero n = grind (arith, nat_tests)

below_zero : (n : ℕ) → nat_lt (suc n) 0 ≡ false
below_zero n = grind (arith, nat_tests)

by_tests : {P : Type 0} (a b : Bool) → a ≡ false → b ≡ true → (P → ⊥) → Decided P (not (a || b))
by_tests false true p q n = fails_it n
by_tests true b p q n = absurd cc
by_tests false false p q n = absurd cc

zero_decided : (n : ℤ) → Decided (n ≡ pos 0) (is_zero n)
zero_decided (pos zero) = holds refl
zero_decided (pos (suc n)) = by_tests (nat_lt (suc n) 0) (nat_lt 0 (suc n)) (below_zero n) (above_zero n)
    (λ e. absurd cc)
zero_decided (negsuc n) = fails_it (λ e. absurd cc)

module _ (g : Gathers) (j : Judges g) (lawful : Lawful g j) (O : Breach → Type 0) (at : Pos) where
  abbrev Stepped : Kind → Type 0
  Stepped k = (p : Option TypeNo × ℤ) × NumberOf k p × (p.1 ≡ pos 0 → ⊥)

  abbrev StepFails : Kind → Breach → Type 0
  StepFails k f = (((p : Option TypeNo × ℤ) → NumberOf k p → ⊥) × (f ≡ at ! rule.WrongType))
      ⊎ ((p : Option TypeNo × ℤ) × NumberOf k p × ((p.1 ≡ pos 0) × (f ≡ at ! rule.ZeroStep)))

  whole_of : {k : Kind} {n : ℤ} → IsWholeConstant k n → (sort : Option TypeNo) × (k ≡ Scalar (Constant sort n))
      × IsNumber sort
  whole_of (whole_constant {sort = sort} i) = (sort, refl, i)

  of_whole : {k : Kind} (p : Option TypeNo × ℤ) → (k ≡ Scalar (Constant p.0 p.1)) → IsNumber p.0 → IsWholeConstant k p.1
  of_whole p e i = subst (λ (k : Kind). IsWholeConstant k p.1) (sym e) (whole_constant i)

  step_out : (k : Kind) → IsStep (operand k) → Stepped k
  step_out k (is_step {n = n} w z) = let q = whole_of w in ((q.0, n), (q.1, q.2), z)

  step_in : (k : Kind) → Stepped k → IsStep (operand k)
  step_in k (p, (e, i), z) = is_step (of_whole p e i) z

  missteps_in : (k : Kind) (f : Breach) → StepFails k f → Missteps at (operand k) f
  missteps_in k f (inl (n, e)) = subst (Missteps at (operand k)) (sym e)
      (no_step (λ m w. let q = whole_of w in n (q.0, m) (q.1, q.2)))
  missteps_in k f (inr (p, (q, i), (z, e))) =
      subst (Missteps at (operand k)) (sym e) (step_zero (subst (IsWholeConstant (operand k)) z (of_whole p q i)))

  missteps_out : (k : Kind) (f : Breach) → Missteps at (operand k) f → StepFails k f
  missteps_out k _ (no_step n) = inl ((λ p m. n p.1 (of_whole p m.0 m.1)), refl)
  missteps_out k _ (step_zero w) = let q = whole_of w in inr ((q.0, pos 0), (q.1, q.2), (refl, refl))

  zero_by : (n : ℤ) (b : Bool) → Decided (n ≡ pos 0) b
      → Checks g j lawful O {A = ℤ} (n ≡ pos 0 → ⊥) (λ f. (n ≡ pos 0) × (f ≡ at ! rule.ZeroStep))
      (reported_where g b at rule.ZeroStep (Ok n))
  zero_by n _ (holds e) = stopped g j lawful O at rule.ZeroStep (λ q. q e) (e, refl) (λ f z. z.1)
  zero_by n _ (fails_it q) = passes n q (λ f z. q z.0)

  nonzero : (a : Ordinal) (p : Option TypeNo × ℤ) → IsOrdinal a p
      → Checks g j lawful O {A = ℤ} (p.1 ≡ pos 0 → ⊥) (λ f. (p.1 ≡ pos 0) × (f ≡ at ! rule.ZeroStep))
      (reported_where g (is_zero a.number) at rule.ZeroStep (Ok a.number))
  nonzero _ _ (is_ordinal a) = zero_by a.number (is_zero a.number) (zero_decided a.number)

  step_is : (o : Option Ordinal) → (ordinal_or_refusal g at o ▷ λ a. reported_where g (is_zero a.number) at
      rule.ZeroStep (Ok a.number)) ≡ step_number g at o
  step_is None = refl
  step_is (Some a) = refl

  pub step_checks : {v : ConstantValue} {k : Kind} → IsConst v k
      → Checks g j lawful O {A = ℤ} (IsStep (operand k)) (Missteps at (operand k)) (step_by g at v)
  step_checks {v = v} {k = k} i = checks_as g j lawful O (step_in k) (step_out k) (missteps_in k) (missteps_out k)
      (subst (Checks g j lawful O {A = ℤ} (Stepped k) (StepFails k)) (step_is (whole_number v))
      (then_check g j lawful O {P = λ p. p.1 ≡ pos 0 → ⊥} {D = λ p f. (p.1 ≡ pos 0) × (f ≡ at ! rule.ZeroStep)}
      (number_answers g j lawful O at v k i) nonzero))

-- ---- the control variable

abbrev type_in : TypeNo → Thing → TypeNo
type_in t (AVariable u) = u
type_in t other = t

abbrev range_in : Range → Shape → Range
range_in r (shape.Scalar q) = q
range_in r other = r

module _ (g : Gathers) (j : Judges g) (lawful : Lawful g j) (names : Ident → Standing) (exports : ℕ → Ident → Standing)
    (own : Ident → Bool) (s : Scope g.Reported) where
  abbrev E : Breach → Type 0
  E = Repeats g j names s

  abbrev C : Ident → TypeNo → Range → Type 0
  C = IsControl s.types names exports own

  abbrev BC : Ident → Breach → Type 0
  BC = BrokenControl s.types names exports own

  abbrev ControlIs : Control → TypeNo × Range → Type 0
  ControlIs c p = (c.of ≡ p.0) × (c.base ≡ p.1.base)

  abbrev ControlSo : Ident → Result Control g.Reported → Type 0
  ControlSo name r = Answers g j E ControlIs (λ p. C name p.0 p.1) (BC name) r

  misnamed_known : {name : Ident} {x : Thing} {f : Breach} → names name ≡ Known x → Misnamed name.pos (names name) f → ⊥
  misnamed_known {name = name} {f = f} e m = elim (subst (λ (st : Standing). Misnamed name.pos st f) e m) [ ]

  wrong_control : {x : Thing} (name : Ident) → names name ≡ Known x → ((t : TypeNo) (r : Range) → C name t r → ⊥)
      → ControlSo name (report g name.pos rule.WrongControl)
  wrong_control name e n = declined g j lawful E name.pos rule.WrongControl (λ p m. n p.0 p.1 m) (no_control e n)
      (λ f z. one z)
    where
      one : {f : Breach} → BC name f → f ≡ name.pos ! rule.WrongControl
      one (no_name m) = absurd (misnamed_known e m)
      one (no_control q m) = refl

  no_variable : {name : Ident} {x : Thing} → names name ≡ Known x → ((t : TypeNo) → x ≡ AVariable t → ⊥)
      → (t : TypeNo) (r : Range) → C name t r → ⊥
  no_variable e n t r (is_control q o m) = n t (known_one (sym e ∙ q))

  not_own : {name : Ident} → own name ≡ false → (t : TypeNo) (r : Range) → C name t r → ⊥
  not_own e t r (is_control q o m) = absurd cc

  no_scalar : {name : Ident} {u : TypeNo} (z : Option Shape) → names name ≡ Known (AVariable u) → shape_at s.types u ≡ z
      → ((r : Range) → z ≡ Some (shape.Scalar r) → ⊥) → (t : TypeNo) (r : Range) → C name t r → ⊥
  no_scalar {u = u} z e h n t r (is_control q o m) =
      n r (sym h ∙ subst (λ (t : TypeNo). IsMade s.types t (shape.Scalar r))
      (sym (ap (type_in t) (known_one (sym e ∙ q)))) m)

  control_shape : (name : Ident) (t : TypeNo) (d : Place) (z : Option Shape) → names name ≡ Known (AVariable t)
      → own name ≡ true → shape_at s.types t ≡ z → ControlSo name (controlled_as g name.pos t d (class_of z))
  control_shape name t d None e o h = wrong_control name e (no_scalar None e h (λ r q. absurd cc))
  control_shape name t d (Some (shape.Scalar r)) e o h =
      means _ (t, r) (refl, refl) (is_control e o h) (λ p m. one p m) (λ f z. none z)
    where
      one : (p : TypeNo × Range) → C name p.0 p.1 → p ≡ (t, r)
      one p (is_control q w m) = let u : t ≡ p.0 = ap (type_in t) (known_one (sym e ∙ q)) in
          pair_of p.0 t p.1 r (sym u) (ap (range_in r)
          (one_made s.types p.0 m (subst (λ (t : TypeNo). IsMade s.types t (shape.Scalar r)) u h)))
        where
          pair_of : (a b : TypeNo) (c d : Range) → a ≡ b → c ≡ d → ◌≡◌ {A = TypeNo × Range} (a, c) (b, d)
          pair_of a b c d p q = ap (λ (x : TypeNo). let y : TypeNo × Range = (x, c) in y) p
              ∙ ap (λ (x : Range). let y : TypeNo × Range = (b, x) in y) q

      none : {f : Breach} → BC name f → ⊥
      none (no_name m) = misnamed_known e m
      none (no_control q n) = n t r (is_control e o h)
  control_shape name t d (Some shape.Set) e o h = wrong_control name e (no_scalar _ e h (λ r q. absurd cc))
  control_shape name t d (Some (shape.Array i u)) e o h = wrong_control name e (no_scalar _ e h (λ r q. absurd cc))
  control_shape name t d (Some (shape.Record fs)) e o h = wrong_control name e (no_scalar _ e h (λ r q. absurd cc))
  control_shape name t d (Some (shape.Procedure p)) e o h = wrong_control name e (no_scalar _ e h (λ r q. absurd cc))
  control_shape name t d (Some (shape.Open u)) e o h = wrong_control name e (no_scalar _ e h (λ r q. absurd cc))

  variable_control : (name : Ident) (t : TypeNo) (d : Place) (b : Bool) → names name ≡ Known (AVariable t)
      → own name ≡ b → ControlSo name (reported_where g (not b) name.pos rule.WrongControl
      (control_variable g s.types name.pos t d))
  variable_control name t d true e o = subst (λ (c : Class). ControlSo name (controlled_as g name.pos t d c))
      (sym (class_is s.types t)) (control_shape name t d (shape_at s.types t) e o refl)
  variable_control name t d false e o = wrong_control name e (not_own o)

  local_control : (name : Ident) (t : TypeNo) (d : Place) (k : LocalKind) (same : Bool) → names name ≡ of_local t k
      → own name ≡ (is_own k && same)
      → ControlSo name (reported_where g (not (is_own k && same)) name.pos rule.WrongControl
      (control_variable g s.types name.pos t d))
  local_control name t d local.Variable same e o = variable_control name t d same e o
  local_control name t d local.Value same e o = variable_control name t d false e o
  local_control name t d local.Alias same e o = variable_control name t d false e o
  local_control name t d local.Open same e o = wrong_control name e (not_own o)

  ahead_only : {name : Ident} {f : Breach} → names name ≡ Ahead → BC name f → f ≡ name.pos ! rule.Ahead
  ahead_only {name = name} {f = f} e (no_name m) = one (subst (λ (st : Standing). Misnamed name.pos st f) e m)
    where
      one : {f : Breach} → Misnamed name.pos Ahead f → f ≡ name.pos ! rule.Ahead
      one not_yet = refl
  ahead_only e (no_control q n) = let z = sym e ∙ q in absurd cc

  meaning_control : (name : Ident) (m : Meaning) → names name ≡ standing m → own name ≡ is_own_variable s m
      → ControlSo name (control_by g s name.pos m)
  meaning_control name (meaning.Constant v) e o = wrong_control name e (no_variable e (λ t q. absurd cc))
  meaning_control name (meaning.Type t n) e o = wrong_control name e (no_variable e (λ t q. absurd cc))
  meaning_control name (meaning.Variable v) e o = variable_control name v.of _ (v.home == s.types.home) e o
  meaning_control name (meaning.Local v) e o = local_control name v.of _ v.kind (v.level == s.level) e o
  meaning_control name (meaning.Field f) e o = wrong_control name e (not_own o)
  meaning_control name (meaning.Procedure p) e o = wrong_control name e (no_variable e (λ t q. absurd cc))
  meaning_control name (meaning.LocalProcedure p) e o = wrong_control name e (no_variable e (λ t q. absurd cc))
  meaning_control name meaning.Ahead e o =
      declined g j lawful E name.pos rule.Ahead (λ p m. none m)
      (no_name (subst (λ (st : Standing). Misnamed name.pos st (name.pos ! rule.Ahead)) (sym e) not_yet))
      (λ f z. ahead_only e z)
    where
      none : {t : TypeNo} {r : Range} → C name t r → ⊥
      none (is_control q w m) = let z = sym e ∙ q in absurd cc
  meaning_control name (meaning.Standard f) e o = wrong_control name e (no_variable e (λ t q. absurd cc))
  meaning_control name (meaning.Module k) e o = wrong_control name e (no_variable e (λ t q. absurd cc))

  unnamed : {name : Ident} (st : Standing) → names name ≡ st → ((x : Thing) → st ≡ Known x → ⊥) → (p : TypeNo × Range)
      → C name p.0 p.1 → ⊥
  unnamed st e n p (is_control q o m) = n (AVariable p.0) (sym e ∙ q)

  broken_name : {name : Ident} (st : Standing) (f : Breach) → names name ≡ st → ((x : Thing) → st ≡ Known x → ⊥)
      → BC name f → Misnamed name.pos st f
  broken_name {name = name} st f e n (no_name m) = subst (λ (st : Standing). Misnamed name.pos st f) e m
  broken_name st _ e n (no_control {x = x} q m) = absurd (n x (sym e ∙ q))

  seen_control : (name : Ident) (st : Standing) (r : Result Meaning (Meaningless g.Reported)) → names name ≡ st
      → looked_up g s name ≡ r → ((m : Meaning) → r ≡ Ok m → own name ≡ is_own_variable s m) → Sees g j name.pos st r
      → ControlSo name (of_sort g name.pos rule.WrongControl r ▷ control_by g s name.pos)
  seen_control name _ _ e q o (sees m) = meaning_control name m e (o m refl)
  seen_control name _ _ e q o sees_nothing = refuses (g.one (name.pos ! rule.Undeclared))
      (accounts_as g j lawful E (λ f x. no_name
      (subst (λ (st : Standing). Misnamed name.pos st f) (sym e)
      (subst (Misnamed name.pos Undeclared) (sym x) undeclared)))
      (λ f x. one (broken_name Undeclared f e (λ x q. absurd cc) x))
      (accounts_one g j lawful E (name.pos ! rule.Undeclared)))
      (unnamed Undeclared e (λ x q. absurd cc))
    where
      one : {f : Breach} → Misnamed name.pos Undeclared f → f ≡ name.pos ! rule.Undeclared
      one undeclared = refl
  seen_control name _ _ e q o (sees_headless b r) = wrong_control name e (no_variable e (λ t q. absurd cc))
  seen_control name _ _ e q o (sees_unknown r) =
      refuses r (record {
        only = λ f m. inr (of_declaration e q m);
        each =
            λ f x. elim (broken_name Unknown f e (λ x q. absurd cc) x) [ ];
      }) (unnamed Unknown e (λ x q. absurd cc))

  -- ---- all of it

  module _ (knows : Knows g j names exports s) (knows_own : KnowsOwn g j own s) where
    pub control_answers : (name : Ident) → ControlSo name (control_of g s name)
    control_answers name = seen_control name (names name) (looked_up g s name) refl refl (knows_own name)
        (knows.of_names name)

    abbrev H : Expr → Kind → Type 0
    H = Has s.types names exports

    abbrev V : Expr → Breach → Type 0
    V = BrokenAsValue s.types names exports

    abbrev F : Expr → Kind → Type 0
    F e k = Fixes s.types names exports e (AConstant k)

    abbrev K : Expr → Breach → Type 0
    K = BrokenAsConstant s.types names exports

    abbrev Controls : Ident → Type 0
    Controls name = (p : TypeNo × Range) × C name p.0 p.1

    control_checks : (name : Ident) → Checks g j lawful E {A = Control} (Controls name) (BC name) (control_of g s name)
    control_checks name = answer_checks (control_answers name)
      where
        answer_checks : {A K : Type 0} {Is : A → K → Type 0} {M : K → Type 0} {B : Breach → Type 0}
            {r : Result A g.Reported} → Answers g j E Is M B r → Checks g j lawful E ((k : K) × M k) B r
        answer_checks (means a k i m u n) = passes a (k, m) n
        answer_checks (refuses r a n) = stops r a (λ z. n z.0 z.1)

    -- the start
    abbrev Starts : Ident → Expr → Type 0
    Starts name e = (q : (TypeNo × Range) × Kind) × (C name q.0.0 q.0.1 × H e q.1)
        × IsAssignable s.types q.0.0 (operand q.1)

    abbrev StartFails : Ident → Expr → Breach → Type 0
    StartFails name e f = (BC name f ⊎ V e f)
        ⊎ ((q : (TypeNo × Range) × Kind) × (C name q.0.0 q.0.1 × H e q.1)
        × Misassigned s.types q.0.0 (first e) rule.NotAssignable (operand q.1) f)

    mapped : {A B L : Type 0} {Is : A → L → Type 0} {Is' : B → L → Type 0} {M : L → Type 0} {D : Breach → Type 0}
        {r : Result A g.Reported} (h : A → B) → ((a : A) (k : L) → Is a k → Is' (h a) k) → Answers g j E Is M D r
        → Answers g j E Is' M D (r ▷ λ a. Ok (h a))
    mapped h c (means a k i m u n) = means (h a) k (c a k i) m u n
    mapped h c (refuses r a n) = refuses r a n

    start_checks : (name : Ident) (e : Expr)
        → Checks g j lawful E {A = TypedExpr} (Starts name e) (StartFails name e)
        (start_at g s.types (meanings_of g e).fixed.at (type_of (control_of g s name)) (value_of g s (meanings_of g e)))
    start_checks name e = subst (λ (at : Pos). Checks g j lawful E {A = TypedExpr} (Starts name e) (StartFails name e)
        (start_at g s.types at (type_of (control_of g s name)) (value_of g s (meanings_of g e)))) (sym (at_is g e))
        (then_check g j lawful E {P = λ q. IsAssignable s.types q.0.0 (operand q.1)}
        {D = λ q f. Misassigned s.types q.0.0 (first e) rule.NotAssignable (operand q.1) f}
        (both_answer g j lawful E (mapped {Is' = λ t p. t ≡ p.0} (λ c. c.of) (λ c p z. z.0) (control_answers name))
        (exactly g j lawful names exports s knows e))
        (λ v q m. subst (λ (u : TypeNo). Checks g j lawful E (IsAssignable s.types u (operand q.1))
        (Misassigned s.types u (first e) rule.NotAssignable (operand q.1))
        (value_suited g rule.NotAssignable s.types v.0 (first e) v.1)) m.0
        (value_suits s.types v.0 g j lawful E rule.NotAssignable (first e) m.1)))

    -- the limit
    abbrev Limits : Ident → Expr → Type 0
    Limits name e = (q : (TypeNo × Range) × Kind) × (C name q.0.0 q.0.1 × H e q.1) × IsLimit q.0.1.base (operand q.1)

    abbrev LimitFails : Ident → Expr → Breach → Type 0
    LimitFails name e f = (BC name f ⊎ V e f)
        ⊎ ((q : (TypeNo × Range) × Kind) × (C name q.0.0 q.0.1 × H e q.1)
        × Mislimits q.0.1.base (first e) (operand q.1) f)

    limit_checks : (name : Ident) (e : Expr)
        → Checks g j lawful E {A = TypedExpr} (Limits name e) (LimitFails name e)
        (limit_at g (meanings_of g e).fixed.at (base_of (control_of g s name)) (value_of g s (meanings_of g e)))
    limit_checks name e = subst (λ (at : Pos). Checks g j lawful E {A = TypedExpr} (Limits name e) (LimitFails name e)
        (limit_at g at (base_of (control_of g s name)) (value_of g s (meanings_of g e)))) (sym (at_is g e))
        (then_check g j lawful E {P = λ q. IsLimit q.0.1.base (operand q.1)}
        {D = λ q f. Mislimits q.0.1.base (first e) (operand q.1) f}
        (both_answer g j lawful E (mapped {Is' = λ b p. b ≡ p.1.base} (λ c. c.base) (λ c p z. z.1)
        (control_answers name)) (exactly g j lawful names exports s knows e))
        (λ v q m. subst (λ (u : TypeNo). Checks g j lawful E (IsLimit u (operand q.1))
        (Mislimits u (first e) (operand q.1)) (limit_by g v.0 (first e) (side_of v.1))) m.0
        (value_limits g j lawful E v.0 (first e) m.1)))

    -- the step
    abbrev Steps : Option Expr → Type 0
    Steps = HasStep s.types names exports own

    data StepBreaks : Option Expr → Breach → Type 0 where
      breaks_constant : {e : Expr} {f : Breach} → K e f → StepBreaks (Some e) f
      breaks_step : {e : Expr} {k : Kind} {f : Breach} → F e k → Missteps (first e) (operand k) f
          → StepBreaks (Some e) f

    step_answer : (step : Option Expr) → Checks g j lawful E {A = ℤ} (Steps step) (StepBreaks step)
        (step_of g s (meant_if g step))
    step_answer None = passes (pos 1) by_one (λ f z. elim z [ ])
    step_answer (Some e) = subst (λ (at : Pos). Checks g j lawful E {A = ℤ} (Steps (Some e)) (StepBreaks (Some e))
        (constant g s (meanings_of g e).fixed ▷ step_by g at)) (sym (at_is g e))
        (checks_as g j lawful E (λ z. by_constant z.1 z.2) step_parts
        (λ f z. elim z [ inl b ↦ breaks_constant b | inr q ↦ breaks_step q.1 q.2 ]) broken_parts
        (then_check g j lawful E {P = λ k. IsStep (operand k)} {D = λ k f. Missteps (first e) (operand k) f}
        (exactly_fixed g j lawful names exports s knows e) (λ v k q. step_checks g j lawful E (first e) q)))
      where
        step_parts : Steps (Some e) → (k : Kind) × F e k × IsStep (operand k)
        step_parts (by_constant {k = k} h z) = (k, h, z)

        broken_parts : (f : Breach) → StepBreaks (Some e) f → K e f
            ⊎ ((k : Kind) × F e k × Missteps (first e) (operand k) f)
        broken_parts f (breaks_constant b) = inl b
        broken_parts f (breaks_step {k = k} h z) = inr (k, h, z)

    -- together
    abbrev RunParts : Ident → Expr → Expr → Option Expr → Type 0
    RunParts name start limit step = (Controls name × Starts name start) × (Limits name limit × Steps step)

    abbrev RunFails : Ident → Expr → Expr → Option Expr → Breach → Type 0
    RunFails name start limit step f = (BC name f ⊎ StartFails name start f)
        ⊎ (LimitFails name limit f ⊎ StepBreaks step f)

    abbrev R : Ident → Expr → Expr → Option Expr → Type 0
    R = Runs s.types names exports own

    abbrev BR : Ident → Expr → Expr → Option Expr → Breach → Type 0
    BR = BrokenRun s.types names exports own

    same_control : (name : Ident) {p q : TypeNo × Range} → C name p.0 p.1 → C name q.0 q.1 → p ≡ q
    same_control name {p = p} {q = q} m n = one_meaning g j lawful E (control_answers name) p q m n

    run_in : {name : Ident} {start limit : Expr} {step : Option Expr} → RunParts name start limit step
        → R name start limit step
    run_in {name = name} ((c, (p, (d, h), a)), ((q, (e, l), b), z)) =
        runs d h a l (subst (λ (x : TypeNo × Range). IsLimit x.1.base (operand q.1)) (same_control name e d) b) z

    run_out : {name : Ident} {start limit : Expr} {step : Option Expr} → R name start limit step
        → RunParts name start limit step
    run_out (runs {t = t} {r = r} {k = k} {l = l} c h a m b z) =
        ((((t, r), c), (((t, r), k), (c, h), a)), ((((t, r), l), (c, m), b), z))

    breaks_in : {name : Ident} {start limit : Expr} {step : Option Expr} (f : Breach) → RunFails name start limit step f
        → BR name start limit step f
    breaks_in f (inl (inl b)) = rules.in_control b
    breaks_in f (inl (inr (inl (inl b)))) = rules.in_control b
    breaks_in f (inl (inr (inl (inr b)))) = rules.in_start b
    breaks_in f (inl (inr (inr (q, (c, h), m)))) = rules.wrong_start c h m
    breaks_in f (inr (inl (inl (inl b)))) = rules.in_control b
    breaks_in f (inr (inl (inl (inr b)))) = rules.in_limit b
    breaks_in f (inr (inl (inr (q, (c, h), m)))) = rules.wrong_limit c h m
    breaks_in f (inr (inr (breaks_constant b))) = rules.in_step b
    breaks_in f (inr (inr (breaks_step h m))) = rules.wrong_step h m

    breaks_out : {name : Ident} {start limit : Expr} {step : Option Expr} (f : Breach) → BR name start limit step f
        → RunFails name start limit step f
    breaks_out f (rules.in_control b) = inl (inl b)
    breaks_out f (rules.in_start b) = inl (inr (inl (inr b)))
    breaks_out f (rules.in_limit b) = inr (inl (inl (inr b)))
    breaks_out f (rules.in_step b) = inr (inr (breaks_constant b))
    breaks_out f (rules.wrong_start {t = t} {r = r} {k = k} c h m) = inl (inr (inr (((t, r), k), (c, h), m)))
    breaks_out f (rules.wrong_limit {t = t} {r = r} {k = k} c h m) = inr (inl (inr (((t, r), k), (c, h), m)))
    breaks_out f (rules.wrong_step h m) = inr (inr (breaks_step h m))

    pub run_answers : (name : Ident) (start limit : Expr) (step : Option Expr)
        → Answers g j E {A = Course} {K = Unit {0}} (λ v u. Unit {0}) (λ u. R name start limit step)
        (BR name start limit step) (course_of g s name (meanings_of g start) (meanings_of g limit)
        (meant_if g step))
    run_answers name start limit step = checks_answer g j lawful E
        (checks_as g j lawful E run_in run_out breaks_in breaks_out
        (map_checks g j lawful E (λ (p : (Control × TypedExpr) × (TypedExpr × ℤ)). let q : Course =
        record { control = p.0.0; start = p.0.1; limit = p.1.0; by = p.1.1 } in q)
        (both_checks g j lawful E (both_checks g j lawful E (control_checks name) (start_checks name start))
        (both_checks g j lawful E (limit_checks name limit) (step_answer step)))))
