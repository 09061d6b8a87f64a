-- A label of a CASE is answered exactly.
use Rattle.std.proofs.Common.{◌≡◌, ℕ, ℤ, Bool, true, false, Option, Some, None, Result, Ok, ◌⊎◌, inl, inr, refl, sym, ap, subst, ◌∙◌}
use Rattle.std.specs.Prelude.{int_lt}
use Rattle.m2_rule.specs.declared.breach.Breach.{Breach}
use Rattle.m2_rule.specs.declared.rule.Rule.TheVariants as rule
use Rattle.m2_tree.specs.declared.pos.Pos.{Pos}
use Rattle.m2_tree.specs.declared.name.Ident.{Ident}
use Rattle.m2_tree.specs.declared.expr.Expr.{Expr}
use Rattle.m2_tree.specs.declared.expr.Item.{Item, out-Item}
use Rattle.typed_tree.specs.declared.types.TypeNo.{TypeNo}
use Rattle.check_scope.specs.declared.scope.Scope.{Scope}
use Rattle.check_scope.specs.Elaborated.{Gathers, reported_where, beside}
use Rattle.check_const.specs.declared.operand.Ordinal.{Ordinal}
use Rattle.check_const.specs.Numbers.{fits}
use Rattle.check_const.specs.Common.{common}
use Rattle.check_const.specs.Bounds.{fits_base, is_of_base, ordered_if}
use Rattle.check_expr.specs.Meanings.{meanings_of}
use Rattle.check_stmt_parts.specs.Simple.{meant_if}
use Rattle.check_stmt_parts.specs.Labels.{bound_of, suits_if, bound_suits, Bounds, bounds_of, ordered_both, bounds_ordered, single, label_range, label_between, item_label}
use Rattle.def_typing.specs.Amounts.{Constant, IsWhole, whole, GoTogether, same_type, number_right, InRange, Suits, has_type, not_asked, takes_type}
use Rattle.def_typing.specs.Operators.{◌!◌}
use Rattle.def_typing.specs.Things.{Standing}
use Rattle.def_typing.specs.Parts.{first}
use Rattle.def_typing.specs.Constants.{IsBound, low_bound, high_bound}
use Rattle.def_typing.specs.Cases as rules
use Rattle.def_typing.specs.Cases.{Number, IsLabelBound, BrokenLabelBound, IsOfBase, Fits, Misfits, other_base, not_in_base, IsEmpty, is_empty, IsEmptyRange, Values, from_to, IsLabel, BrokenLabel}
use Rattle.law_typing.specs.Judging.{Judges, Answers, means}
use Rattle.law_typing.specs.Exact.{Knows, Repeats}
use Rattle.law_typing.proofs.Combining.{Lawful, Decided, decided_as, exact, both_answer, then_answer, Checks, Tests, passes, stopped, checks_as, where_checks, where_also, beside_checks, then_check}
use Rattle.law_typing.proofs.Deciding.{whole_decided, same_decided, range_decided, TogetherIs, together, apart, common_is}
use Rattle.law_typing.proofs.Elements.{one_meaning, checks_answer}
use Rattle.law_typing.proofs.Places.{at_is}
use Rattle.law_typing.proofs.Bounds.{IsNumbered, is_numbered, has_none, ordinal_answers}

abbrev pub spanned : Ordinal × Ordinal → Number × Number
spanned b = ((b.0.sort, b.0.number), (b.1.sort, b.1.number))

pub data IsSpan : Bounds → Values → Type 0 where
  is_span : (b : Ordinal × Ordinal) → IsSpan (Some b) (Some (spanned b))
  no_span : IsSpan None None

spans : {a b : Option Ordinal} {p q : Option Number} → IsNumbered a p → IsNumbered b q
    → IsSpan (bounds_of a b) (from_to p q)
spans (is_numbered a) (is_numbered b) = is_span (a, b)
spans (is_numbered a) has_none = no_span
spans has_none i = no_span

-- ---- a bound and the selector

goes_with : {t u : TypeNo} {sort : Option TypeNo} → GoTogether (Some t) (Some u) sort → u ≡ t
goes_with same_type = refl

number_goes : {t : TypeNo} {sort : Option TypeNo} → GoTogether (Some t) None sort → IsWhole t
number_goes (number_right w) = w

together_same : {t u : TypeNo} → u ≡ t → GoTogether (Some t) (Some u) (Some t)
together_same {t = t} e = subst (λ (u : TypeNo). GoTogether (Some t) (Some u) (Some t)) (sym e) same_type

pub base_decided : (base : TypeNo) (sort : Option TypeNo) → Decided (IsOfBase (Some base) sort) (is_of_base base sort)
base_decided base None = decided_as number_right number_goes (whole_decided base)
base_decided base (Some t) = decided_as together_same goes_with (same_decided t base)

ranged : {base : TypeNo} {n : ℤ} → Suits (Some base) (Constant None n) → InRange (Some base) n
ranged (takes_type r) = r

pub suits_decided : {base : TypeNo} (n : ℤ) → IsWhole base
    → Decided (Suits (Some base) (Constant None n)) (fits (Some base) n)
suits_decided n w = decided_as takes_type ranged (range_decided n (whole w))

suits_anything : (sort : Option TypeNo) (n : ℤ) → Suits None (Constant sort n)
suits_anything None n = not_asked
suits_anything (Some t) n = has_type

module _ (g : Gathers) (j : Judges g) (lawful : Lawful g j) (O : Breach → Type 0) where
  abbrev Mis : Pos → Option TypeNo → Option Number → Breach → Type 0
  Mis at base None f = ⊥
  Mis at base (Some p) f = Misfits at base p.0 p.1 f

  number_checks : (at : Pos) (base : TypeNo) (a : Ordinal) (sort : Option TypeNo) → IsOfBase (Some base) sort
      → Checks g j lawful O {A = Unit {0}} (Suits (Some base) (Constant sort a.number))
      (λ f. (Suits (Some base) (Constant sort a.number) → ⊥) × (f ≡ at ! rule.OutOfRange))
      (fits_base g at base sort a.number)
  number_checks at base a None w = where_checks g j lawful O tt (fits (Some base) a.number) at rule.OutOfRange
      (suits_decided a.number (number_goes w))
  number_checks at base a (Some t) w = passes tt has_type (λ f z. z.0 has_type)

  fit_checks : (at : Pos) (base : Option TypeNo) (a : Option Ordinal) (p : Option Number) → IsNumbered a p
      → Checks g j lawful O (Fits base p) (Mis at base p) (suits_if g base at a)
  fit_checks at None _ _ has_none = passes tt tt (λ f z. z)
  fit_checks at (Some base) _ _ has_none = passes tt tt (λ f z. z)
  fit_checks at None _ _ (is_numbered a) =
      passes tt (record { of_base = tt; suits = suits_anything a.sort a.number }) (λ f z. none z)
    where
      none : {f : Breach} → Misfits at None a.sort a.number f → ⊥
      none (other_base n) = n tt
      none (not_in_base b n) = n (suits_anything a.sort a.number)
  fit_checks at (Some base) _ _ (is_numbered a) =
      checks_as g j lawful O (λ p. record { of_base = p.0; suits = p.1 }) (λ m. (m.of_base, m.suits)) (λ f z. into f z)
      (λ f z. out z)
      (where_also g j lawful O {Q = Suits (Some base) (Constant a.sort a.number)}
      {C = λ f. (Suits (Some base) (Constant a.sort a.number) → ⊥) × (f ≡ at ! rule.OutOfRange)}
      (is_of_base base a.sort) at rule.WrongType (base_decided base a.sort) (number_checks at base a a.sort))
    where
      into : (f : Breach) → ((IsOfBase (Some base) a.sort → ⊥) × (f ≡ at ! rule.WrongType))
          ⊎ (IsOfBase (Some base) a.sort × ((Suits (Some base) (Constant a.sort a.number) → ⊥)
          × (f ≡ at ! rule.OutOfRange))) → Misfits at (Some base) a.sort a.number f
      into f (inl (n, e)) = subst (Misfits at (Some base) a.sort a.number) (sym e) (other_base n)
      into f (inr (w, (n, e))) = subst (Misfits at (Some base) a.sort a.number) (sym e) (not_in_base w n)

      out : {f : Breach} → Misfits at (Some base) a.sort a.number f
          → ((IsOfBase (Some base) a.sort → ⊥) × (f ≡ at ! rule.WrongType))
          ⊎ (IsOfBase (Some base) a.sort × ((Suits (Some base) (Constant a.sort a.number) → ⊥)
          × (f ≡ at ! rule.OutOfRange)))
      out (other_base n) = inl (n, refl)
      out (not_in_base w n) = inr (w, (n, refl))

  -- ---- two bounds

  abbrev Numbers : Type 0
  Numbers = Option Number × Option Number

  abbrev Upward : Numbers → Type 0
  Upward q = IsEmptyRange q.0 q.1 → ⊥

  abbrev Downward : Pos → Numbers → Breach → Type 0
  Downward at q f = IsEmptyRange q.0 q.1 × (f ≡ at ! rule.EmptyRange)

  abbrev both_of : Ordinal → Ordinal → Numbers
  both_of a b = (Some (a.sort, a.number), Some (b.sort, b.number))

  less_of : {s t : Option TypeNo} {n m : ℤ} → IsEmpty s t n m → int_lt m n ≡ true
  less_of (is_empty u e) = e

  goes_of : {s t : Option TypeNo} {n m : ℤ} → IsEmpty s t n m → (u : Option TypeNo) × GoTogether s t u
  goes_of (is_empty {u = u} z e) = (u, z)

  order_by : (at : Pos) (a b : Ordinal) (m : Option (Option TypeNo)) (less : Bool) → int_lt b.number a.number ≡ less
      → TogetherIs a.sort b.sort m
      → Tests g j lawful O (Upward (both_of a b)) (Downward at (both_of a b)) (ordered_if g at a b m)
  order_by at a b _ less e (apart n) = passes tt (λ z. let q = goes_of z in n q.0 q.1)
      (λ f z. let q = goes_of z.0 in n q.0 q.1)
  order_by at a b _ true e (together u t only) =
      subst (λ (l : Bool). Tests g j lawful O (Upward (both_of a b)) (Downward at (both_of a b))
      (reported_where g l at rule.EmptyRange (Ok tt))) (sym e)
      (stopped g j lawful O at rule.EmptyRange (λ n. n (is_empty t e)) (is_empty t e, refl) (λ f z. z.1))
  order_by at a b _ false e (together u t only) =
      subst (λ (l : Bool). Tests g j lawful O (Upward (both_of a b)) (Downward at (both_of a b))
      (reported_where g l at rule.EmptyRange (Ok tt))) (sym e)
      (passes tt (λ z. let clash : true ≡ false = sym (less_of z) ∙ e in absurd cc)
      (λ f z. let clash : true ≡ false = sym (less_of z.0) ∙ e in absurd cc))

  order_checks : (at : Pos) (a b : Option Ordinal) (p q : Option Number) → IsNumbered a p → IsNumbered b q
      → Tests g j lawful O (Upward (p, q)) (Downward at (p, q)) (ordered_both g at a b)
  order_checks at _ _ _ _ (is_numbered a) (is_numbered b) =
      order_by at a b (common a.sort b.sort) (int_lt b.number a.number) refl (common_is a.sort b.sort)
  order_checks at _ _ _ _ (is_numbered a) has_none = passes tt (λ z. z) (λ f z. z.0)
  order_checks at _ _ _ _ has_none i = passes tt (λ z. z) (λ f z. z.0)

  -- ---- all of a label

  span_answers : (a b : Option Ordinal) (p q : Option Number) → IsNumbered a p → IsNumbered b q
      → Answers g j O IsSpan (λ x. x ≡ from_to p q) (λ f. ⊥) (Ok (bounds_of a b))
  span_answers a b p q i k = means (bounds_of a b) (from_to p q) (spans i k) refl (λ x e. e) (λ f z. z)

  module _ {M N : Option Number → Type 0} {B C : Breach → Type 0} {a b : Result (Option Ordinal) g.Reported}
      (base : Option TypeNo) (at at' : Pos) (low : Answers g j O IsNumbered M B a)
      (high : Answers g j O IsNumbered N C b) where
    abbrev SingleIs : Values → Type 0
    SingleIs x = (p : Option Number) × M p × (Fits base p × (x ≡ from_to p p))

    abbrev SingleFails : Breach → Type 0
    SingleFails f = B f ⊎ ((p : Option Number) × M p × Mis at base p f)

    low_fits : Checks g j lawful O {A = Unit {0}} ((p : Option Number) × M p × Fits base p)
        (λ f. B f ⊎ ((p : Option Number) × M p × Mis at base p f)) (bound_suits g base at a)
    low_fits = then_check g j lawful O {P = Fits base} {D = Mis at base} low (λ x p i. fit_checks at base x p i)

    high_fits : Checks g j lawful O {A = Unit {0}} ((p : Option Number) × N p × Fits base p)
        (λ f. C f ⊎ ((p : Option Number) × N p × Mis at' base p f)) (bound_suits g base at' b)
    high_fits = then_check g j lawful O {P = Fits base} {D = Mis at' base} high (λ x p i. fit_checks at' base x p i)

    pub single_answers : Answers g j O IsSpan SingleIs SingleFails (single g base at a)
    single_answers = exact g j lawful O {M = λ x. (k : Option Number × Unit {0})
        × (M k.0 × ((p : Option Number) × M p × Fits base p)) × (x ≡ from_to k.0 k.0)}
        {B = λ f. (B f ⊎ SingleFails f) ⊎ ((k : Option Number × Unit {0})
        × (M k.0 × ((p : Option Number) × M p × Fits base p)) × ⊥)}
        (λ x z. (
          z.0.0,
          z.1.0,
          (
            subst (Fits base) (one_meaning g j lawful O low z.1.1.0 z.0.0 z.1.1.1 z.1.0) z.1.1.2,
            z.2,
          ),
        ))
        (λ x z. ((z.0, tt), (z.1, (z.0, z.1, z.2.0)), z.2.1))
        (λ f z. elim z [ inl y ↦ elim y [ inl b ↦ inl b | inr w ↦ w ] | inr y ↦ absurd y.2 ])
        (λ f z. inl (inr z))
        (then_answer g j lawful O {N = λ k x. x ≡ from_to k.0 k.0} {D = λ k f. ⊥}
        (both_answer g j lawful O low (checks_answer g j lawful O low_fits))
        (λ x k i. span_answers x.0 x.0 k.0 k.0 i.0 i.0))

    abbrev RangeIs : Values → Type 0
    RangeIs x = (q : Numbers) × (M q.0 × N q.1) × ((Fits base q.0 × Fits base q.1) × (Upward q × (x ≡ from_to q.0 q.1)))

    abbrev RangeFails : Breach → Type 0
    RangeFails f = (B f ⊎ C f) ⊎ ((((p : Option Number) × M p × Mis at base p f)
        ⊎ ((p : Option Number) × N p × Mis at' base p f)) ⊎ ((q : Numbers) × (M q.0 × N q.1) × Downward at q f))

    abbrev Fitting : Type 0
    Fitting = (((p : Option Number) × M p × Fits base p) × ((p : Option Number) × N p × Fits base p))
        × ((q : Numbers) × (M q.0 × N q.1) × Upward q)

    abbrev Unfit : Breach → Type 0
    Unfit f = ((B f ⊎ ((p : Option Number) × M p × Mis at base p f))
        ⊎ (C f ⊎ ((p : Option Number) × N p × Mis at' base p f)))
        ⊎ ((B f ⊎ C f) ⊎ ((q : Numbers) × (M q.0 × N q.1) × Downward at q f))

    all_fit : Checks g j lawful O {A = Unit {0}} Fitting Unfit
        (beside g (beside g (bound_suits g base at a) (bound_suits g base at' b)) (bounds_ordered g at a b))
    all_fit = beside_checks g j lawful O (beside_checks g j lawful O low_fits high_fits)
        (then_check g j lawful O {P = Upward} {D = Downward at} (both_answer g j lawful O low high)
        (λ x q i. order_checks at x.0 x.1 q.0 q.1 i.0 i.1))

    abbrev Both : Type 0
    Both = Numbers × Unit {0}

    pub range_answers : Answers g j O IsSpan RangeIs RangeFails (label_range g base at a at' b)
    range_answers = exact g j lawful O {M = λ x. (k : Both) × ((M k.0.0 × N k.0.1) × Fitting)
        × (x ≡ from_to k.0.0 k.0.1)} {B = λ f. ((B f ⊎ C f) ⊎ Unfit f)
        ⊎ ((k : Both) × ((M k.0.0 × N k.0.1) × Fitting) × ⊥)}
        (λ x z. into x z) (λ x z. out x z) (λ f z. fails_in f z) (λ f z. fails_out f z)
        (then_answer g j lawful O {N = λ k x. x ≡ from_to k.0.0 k.0.1} {D = λ k f. ⊥}
        (both_answer g j lawful O (both_answer g j lawful O low high) (checks_answer g j lawful O all_fit))
        (λ x k i. span_answers x.0.0 x.0.1 k.0.0 k.0.1 i.0.0 i.0.1))
      where
        into : (x : Values) → (k : Both) × ((M k.0.0 × N k.0.1) × Fitting) × (x ≡ from_to k.0.0 k.0.1) → RangeIs x
        into x (k, ((m, n), (((p, mp, ip), (q, nq, iq)), (r, (mr, nr), o))), e) = (
          k.0,
          (m, n),
          (
            (
              subst (Fits base) (one_meaning g j lawful O low p k.0.0 mp m) ip,
              subst (Fits base)
                  (one_meaning g j lawful O high q k.0.1 nq n) iq,
            ),
            (
              subst (λ (x : Option Number). Upward (k.0.0, x)) (one_meaning g j lawful O high r.1 k.0.1 nr n)
                  (subst (λ (x : Option Number). Upward (x, r.1)) (one_meaning g j lawful O low r.0 k.0.0 mr m) o),
              e,
            ),
          ),
        )

        out : (x : Values) → RangeIs x → (k : Both) × ((M k.0.0 × N k.0.1) × Fitting) × (x ≡ from_to k.0.0 k.0.1)
        out x (q, (m, n), ((i, k), (o, e))) = ((q, tt), ((m, n), (((q.0, m, i), (q.1, n, k)), (q, (m, n), o))), e)

        unfit : (f : Breach) → Unfit f → RangeFails f
        unfit f (inl (inl (inl b))) = inl (inl b)
        unfit f (inl (inl (inr y))) = inr (inl (inl y))
        unfit f (inl (inr (inl c))) = inl (inr c)
        unfit f (inl (inr (inr y))) = inr (inl (inr y))
        unfit f (inr (inl b)) = inl b
        unfit f (inr (inr y)) = inr (inr y)

        fails_in : (f : Breach) → ((B f ⊎ C f) ⊎ Unfit f) ⊎ ((k : Both) × ((M k.0.0 × N k.0.1) × Fitting) × ⊥)
            → RangeFails f
        fails_in f (inl (inl b)) = inl b
        fails_in f (inl (inr u)) = unfit f u
        fails_in f (inr y) = absurd y.2

        fails_out : (f : Breach) → RangeFails f → ((B f ⊎ C f) ⊎ Unfit f)
            ⊎ ((k : Both) × ((M k.0.0 × N k.0.1) × Fitting) × ⊥)
        fails_out f (inl b) = inl (inl b)
        fails_out f (inr (inl (inl y))) = inl (inr (inl (inl (inr y))))
        fails_out f (inr (inl (inr y))) = inl (inr (inl (inr (inr y))))
        fails_out f (inr (inr y)) = inl (inr (inr (inr y)))

-- ---- a label as it is written

module _ (g : Gathers) (j : Judges g) (lawful : Lawful g j) (names : Ident → Standing) (exports : ℕ → Ident → Standing)
    (s : Scope g.Reported) (knows : Knows g j names exports s) (base : Option TypeNo) (i : Item) where
  abbrev O : Breach → Type 0
  O = Repeats g j names s

  abbrev Bound : Expr → Option Number → Type 0
  Bound e p = IsLabelBound s.types names exports base e p

  abbrev at : Pos
  at = first (out-Item i).low

  abbrev BrokenBound : Expr → Breach → Type 0
  BrokenBound e = BrokenLabelBound s.types names exports base at e

  abbrev L : Values → Type 0
  L = IsLabel s.types names exports base i

  abbrev BL : Breach → Type 0
  BL = BrokenLabel s.types names exports base i

  abbrev LabelSo : Result Bounds g.Reported → Type 0
  LabelSo r = Answers g j O IsSpan L BL r

  -- which rules a number that does not suit breaks
  abbrev Unsuited : Pos → Option Number → Breach → Type 0
  Unsuited at' p f = Mis g j lawful O at' base p f

  unsuited : {e : Expr} → IsBound e (out-Item i) → (p : Option Number) {f : Breach} → Bound e p → Unsuited (first e) p f
      → BL f
  unsuited z None b m = absurd m
  unsuited z (Some p) b m = rules.misfits {sort = p.0} {n = p.1} z b m

  abbrev One : Values → Type 0
  One x = (p : Option Number) × Bound (out-Item i).low p × (Fits base p × (x ≡ from_to p p))

  abbrev OneFails : Breach → Type 0
  OneFails f = BrokenBound (out-Item i).low f ⊎ ((p : Option Number) × Bound (out-Item i).low p × Unsuited at p f)

  one_label : (out-Item i).high ≡ None → (x : Values) → One x → L x
  one_label h x (p, b, (q, e)) = subst L (sym e) (rules.single h b q)

  label_one : (out-Item i).high ≡ None → {x : Values} → L x → One x
  label_one h (rules.single {p = p} e b q) = (p, b, (q, refl))
  label_one h (rules.range e b c q r o) = let z = sym e ∙ h in absurd cc

  one_broken : (f : Breach) → OneFails f → BL f
  one_broken f (inl b) = rules.in_label_bound (low_bound refl) b
  one_broken f (inr (p, b, m)) = unsuited (low_bound refl) p b m

  broken_one : (out-Item i).high ≡ None → {f : Breach} → BL f → OneFails f
  broken_one h {f = f} (rules.in_label_bound (low_bound e) b) = inl (subst (λ (x : Expr). BrokenBound x f) (sym e) b)
  broken_one h (rules.in_label_bound (high_bound e) b) = let z = sym e ∙ h in absurd cc
  broken_one h {f = f} (rules.misfits {sort = sort} {n = n} (low_bound e) b m) =
      inr (
        Some (sort, n),
        subst (λ (x : Expr). Bound x (Some (sort, n))) (sym e) b,
        subst
            (λ (x : Expr). Misfits (first x) base sort n f) (sym e) m,
      )
  broken_one h (rules.misfits (high_bound e) b m) = let z = sym e ∙ h in absurd cc
  broken_one h (rules.empty e b c o) = let z = sym e ∙ h in absurd cc

  module _ (high : Expr) (h : (out-Item i).high ≡ Some high) where
    abbrev Pair : Type 0
    Pair = Option Number × Option Number

    abbrev Two : Values → Type 0
    Two x = (q : Pair) × (Bound (out-Item i).low q.0 × Bound high q.1)
        × ((Fits base q.0 × Fits base q.1) × ((IsEmptyRange q.0 q.1 → ⊥) × (x ≡ from_to q.0 q.1)))

    abbrev TwoFails : Breach → Type 0
    TwoFails f = (BrokenBound (out-Item i).low f ⊎ BrokenBound high f)
        ⊎ ((((p : Option Number) × Bound (out-Item i).low p × Unsuited at p f)
        ⊎ ((p : Option Number) × Bound high p × Unsuited (first high) p f))
        ⊎ ((q : Pair) × (Bound (out-Item i).low q.0 × Bound high q.1)
        × (IsEmptyRange q.0 q.1 × (f ≡ at ! rule.EmptyRange))))

    abbrev unsome : Option Expr → Expr
    unsome (Some x) = x
    unsome None = high

    same_high : {x : Expr} → (out-Item i).high ≡ Some x → x ≡ high
    same_high e = ap unsome (sym e ∙ h)

    two_label : (x : Values) → Two x → L x
    two_label x (q, (b, c), ((k, l), (o, e))) = subst L (sym e) (rules.range h b c k l o)

    label_two : {x : Values} → L x → Two x
    label_two (rules.single e b q) = let z = sym e ∙ h in absurd cc
    label_two (rules.range {p = p} {q = q} e b c k l o) =
        ((p, q), (b, subst (λ (x : Expr). Bound x q) (same_high e) c), ((k, l), (o, refl)))

    two_broken : (f : Breach) → TwoFails f → BL f
    two_broken f (inl (inl b)) = rules.in_label_bound (low_bound refl) b
    two_broken f (inl (inr b)) = rules.in_label_bound (high_bound h) b
    two_broken f (inr (inl (inl (p, b, m)))) = unsuited (low_bound refl) p b m
    two_broken f (inr (inl (inr (p, b, m)))) = unsuited (high_bound h) p b m
    two_broken f (inr (inr (q, (b, c), (o, e)))) = subst BL (sym e) (rules.empty h b c o)

    broken_two : {f : Breach} → BL f → TwoFails f
    broken_two {f = f} (rules.in_label_bound (low_bound e) b) =
        inl (inl (subst (λ (x : Expr). BrokenBound x f) (sym e) b))
    broken_two {f = f} (rules.in_label_bound (high_bound e) b) =
        inl (inr (subst (λ (x : Expr). BrokenBound x f) (same_high e) b))
    broken_two {f = f} (rules.misfits {sort = sort} {n = n} (low_bound e) b m) =
        inr (inl (inl (
          Some (sort, n),
          subst (λ (x : Expr). Bound x (Some (sort, n))) (sym e) b,
          subst
              (λ (x : Expr). Misfits (first x) base sort n f) (sym e) m,
        )))
    broken_two {f = f} (rules.misfits {sort = sort} {n = n} (high_bound e) b m) =
        inr (inl (inr (
          Some (sort, n),
          subst (λ (x : Expr). Bound x (Some (sort, n))) (same_high e) b,
          subst
              (λ (x : Expr). Misfits (first x) base sort n f) (same_high e) m,
        )))
    broken_two (rules.empty {p = p} {q = q} e b c o) =
        inr (inr ((p, q), (b, subst (λ (x : Expr). Bound x q) (same_high e) c), (o, refl)))

  label_by : (high : Option Expr) → (out-Item i).high ≡ high
      → LabelSo (label_between g s base (meanings_of g (out-Item i).low) (meant_if g high))
  label_by None h = subst (λ (at : Pos). LabelSo
      (single g base at (bound_of g s base at (meanings_of g (out-Item i).low)))) (sym (at_is g (out-Item i).low))
      (exact g j lawful O (one_label h) (λ x z. label_one h z) one_broken (λ f z. broken_one h z)
      (single_answers g j lawful O {N = Bound (out-Item i).low} {C = BrokenBound (out-Item i).low} base at at
      (ordinal_answers g j lawful names exports s knows base at (out-Item i).low)
      (ordinal_answers g j lawful names exports s knows base at (out-Item i).low)))
  label_by (Some high) h = subst (λ (at : Pos). LabelSo
      (label_range g base at (bound_of g s base at (meanings_of g (out-Item i).low)) (meanings_of g high).fixed.at
      (bound_of g s base at (meanings_of g high)))) (sym (at_is g (out-Item i).low))
      (subst (λ (at' : Pos). LabelSo (label_range g base at (bound_of g s base at (meanings_of g (out-Item i).low)) at'
      (bound_of g s base at (meanings_of g high)))) (sym (at_is g high))
      (exact g j lawful O (two_label high h) (λ x z. label_two high h z) (two_broken high h)
      (λ f z. broken_two high h z) (range_answers g j lawful O base at (first high)
      (ordinal_answers g j lawful names exports s knows base at (out-Item i).low)
      (ordinal_answers g j lawful names exports s knows base at high))))

  pub label_answers : LabelSo (item_label g s base i)
  label_answers = label_by (out-Item i).high refl
