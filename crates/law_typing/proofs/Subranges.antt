-- Subranges are answered exactly.
use Rattle.std.proofs.Common.{◌≡◌, ℕ, ℤ, pos, Bool, true, false, cond, Option, Some, None, Result, Ok, ◌⊎◌, inl, inr, refl, sym, ap, subst, ◌∙◌}
use Rattle.std.specs.Prelude.{int_lt}
use Rattle.m2_rule.specs.declared.breach.Breach.{Breach}
use Rattle.m2_rule.specs.declared.rule.Rule.TheVariants as rule
use Rattle.m2_tree.specs.declared.pos.Pos.{Pos}
use Rattle.m2_tree.specs.declared.name.Ident.{Ident}
use Rattle.m2_tree.specs.declared.expr.Expr.{Expr}
use Rattle.m2_tree.specs.declared.expr.Qualified.{Qualified}
use Rattle.typed_tree.specs.declared.types.TypeNo.{TypeNo}
use Rattle.typed_tree.specs.declared.shape.Scalar.{Scalar as Range}
use Rattle.typed_tree.specs.declared.shape.Shape.{Shape}
use Rattle.typed_tree.specs.declared.shape.Shape.TheVariants as shape
use Rattle.typed_tree.specs.declared.meaning.Value.{Value}
use Rattle.typed_tree.specs.Known.{scalar_at}
use Rattle.typed_tree.specs.Types.{integer, cardinal}
use Rattle.check_scope.specs.declared.scope.Scope.{Scope}
use Rattle.check_scope.specs.Elaborated.{Gathers, reported_where, beside}
use Rattle.check_const.specs.declared.operand.Ordinal.{Ordinal}
use Rattle.check_const.specs.declared.operand.Operand.{Operand}
use Rattle.check_const.specs.Operands.{operand_of}
use Rattle.check_const.specs.Numbers.{is_between, fits}
use Rattle.check_const.specs.Common.{common}
use Rattle.check_const.specs.Bounds.{bounds_in_order, fits_base, is_of_base, ordered_if, ordinal_in}
use Rattle.check_const.specs.Parts.{constant}
use Rattle.check_expr.specs.Meanings.{part}
use Rattle.check_type_expr.specs.Named.{first_of}
use Rattle.check_type_expr.specs.Subranges.{bound_of, base_of, between, subrange_between, is_of, are_bounds, under}
use Rattle.check_type_expr.specs.Made.{scalar_or, scalar_named, subrange}
use Rattle.def_typing.specs.Shapes.{shape_at, IsMade}
use Rattle.def_typing.specs.Amounts as amounts
use Rattle.def_typing.specs.Amounts.{Constant, IsWhole, whole, GoTogether, Suits, has_type, Within}
use Rattle.def_typing.specs.Operators.{◌!◌, Kind, Scalar, operand}
use Rattle.def_typing.specs.Things.{Standing}
use Rattle.def_typing.specs.Parts.{first}
use Rattle.def_typing.specs.Constants.{AConstant, Fixes}
use Rattle.def_typing.specs.Expressions.{BrokenAsConstant}
use Rattle.def_typing.specs.Cases.{Number, SelectsIn, constant_type, negative, not_negative, IsOfBase, IsEmpty, is_empty}
use Rattle.def_typing.specs.TypeNames.{NamesType, BrokenTypeName}
use Rattle.def_typing.specs.Subranges as rules
use Rattle.def_typing.specs.Subranges.{IsUnder, Exceeds, IsTypeBound, is_type_bound, BrokenTypeBound, NamesRange, names_range, IsSubrange, BrokenSubrange}
use Rattle.law_typing.specs.Judging.{Judges, Answers, means}
use Rattle.law_typing.specs.Exact.{IsConst, is_const, Knows, Repeats}
use Rattle.law_typing.proofs.Combining.{Lawful, Decided, exact, fine, declined, both_answer, then_answer, then_checked, Checks, Tests, passes, stopped, checks_as, where_checks, where_also, beside_checks, then_check}
use Rattle.law_typing.proofs.Deciding.{within_decided, TogetherIs, together, apart, common_is}
use Rattle.law_typing.proofs.Singles.{IsConstantOperand, constant_scalar, constant_set, constant_text, constant_is}
use Rattle.law_typing.proofs.Elements.{IsOrdinal, is_ordinal, one_meaning, checks_answer}
use Rattle.law_typing.proofs.Places.{at_is}
use Rattle.law_typing.proofs.Expressing.{exactly_fixed}
use Rattle.law_typing.proofs.Heading.{place_same}
use Rattle.law_typing.proofs.Labelling.{base_decided, suits_decided}
use Rattle.law_typing.proofs.Shaping.{scalar_of, scalar_is}
use Rattle.law_typing.proofs.TypeNaming.{type_name_answers}

abbrev sorted_in : Number → Kind → Number
sorted_in p (Scalar (Constant sort n)) = (sort, n)
sorted_in p other = p

abbrev pub Limits : Type 0
Limits = Number × Number

abbrev range_of : TypeNo → ℤ → ℤ → Range
range_of base n m = record { base = base; low = n; high = m }

range_same : {b c : TypeNo} {n m k l : ℤ} → b ≡ c → n ≡ m → k ≡ l
    → ◌≡◌ {A = Range} (record { base = b; low = n; high = k }) (record { base = c; low = m; high = l })
range_same {b = b} {c = c} {n = n} {m = m} {k = k} {l = l} e f h =
    ap (λ (x : TypeNo). let r : Range = record { base = x; low = n; high = k } in r) e
    ∙ ap (λ (x : ℤ). let r : Range = record { base = c; low = x; high = k } in r) f
    ∙ ap (λ (x : ℤ). let r : Range = record { base = c; low = m; high = x } in r) h

-- ---- the base of bounds

one_base : {sort : Option TypeNo} {n : ℤ} {b c : TypeNo} → SelectsIn (Constant sort n) b → SelectsIn (Constant sort n) c
    → c ≡ b
one_base constant_type constant_type = refl
one_base (negative e) (negative f) = refl
one_base (negative e) (not_negative f) = let z : true ≡ false = sym e ∙ f in absurd cc
one_base (not_negative e) (negative f) = let z : true ≡ false = sym f ∙ e in absurd cc
one_base (not_negative e) (not_negative f) = refl

number_selects : (n : ℤ) (b : Bool) → int_lt n (pos 0) ≡ b → SelectsIn (Constant None n) (cond b integer cardinal)
number_selects n true e = negative e
number_selects n false e = not_negative e

base_selects : (sort : Option TypeNo) (n : ℤ) → SelectsIn (Constant sort n) (base_of sort n)
base_selects None n = number_selects n (int_lt n (pos 0)) refl
base_selects (Some t) n = constant_type

number_whole : {n : ℤ} {b : TypeNo} → SelectsIn (Constant None n) b → IsWhole b
number_whole (negative e) = amounts.is_integer
number_whole (not_negative e) = amounts.is_cardinal

module _ (g : Gathers) (j : Judges g) (lawful : Lawful g j) (O : Breach → Type 0) where
  abbrev pub IsRange : Range → Range → Type 0
  IsRange a r = a ≡ r

  -- ---- one bound

  abbrev OrdinalOf : Kind → Number → Type 0
  OrdinalOf c p = c ≡ Scalar (Constant p.0 p.1)

  abbrev NoOrdinal : Pos → Kind → Breach → Type 0
  NoOrdinal at c f = ((sort : Option TypeNo) (n : ℤ) → c ≡ Scalar (Constant sort n) → ⊥) × (f ≡ at ! rule.WrongType)

  ordinal_by : (at : Pos) {o : Option Operand} {c : Kind} → IsConstantOperand o c
      → Answers g j O IsOrdinal (OrdinalOf c) (NoOrdinal at c) (ordinal_in g at o)
  ordinal_by at (constant_scalar a) = means a (a.sort, a.number) (is_ordinal a) refl (λ p m. sym (ap (sorted_in p) m))
      (λ f z. z.0 a.sort a.number refl)
  ordinal_by at (constant_set bits) = declined g j lawful O at rule.WrongType (λ p m. absurd cc)
      ((λ s n e. absurd cc), refl) (λ f z. z.1)
  ordinal_by at (constant_text text) = declined g j lawful O at rule.WrongType (λ p m. absurd cc)
      ((λ s n e. absurd cc), refl) (λ f z. z.1)

  ordinal_answers : (at : Pos) (v : Value) (k : Kind) → IsConst v k
      → Answers g j O IsOrdinal (OrdinalOf (operand k)) (NoOrdinal at (operand k)) (ordinal_in g at (operand_of v))
  ordinal_answers at _ _ (is_const v) = ordinal_by at (constant_is v)

  -- ---- bounds without a name

  -- what is asked of two bounds that go together
  pub record Fine (q : Limits) (base : TypeNo) : Type 0 where
    pub upward : int_lt q.1.1 q.0.1 ≡ true → ⊥
    pub low_suits : Suits (Some base) (Constant q.0.0 q.0.1)
    pub high_suits : Suits (Some base) (Constant q.1.0 q.1.1)

  abbrev NotFine : Pos → Pos → Limits → TypeNo → Breach → Type 0
  NotFine at at' q base f = ((int_lt q.1.1 q.0.1 ≡ true) × (f ≡ at ! rule.EmptyRange))
      ⊎ (((Suits (Some base) (Constant q.0.0 q.0.1) → ⊥) × (f ≡ at ! rule.OutOfRange))
      ⊎ ((Suits (Some base) (Constant q.1.0 q.1.1) → ⊥) × (f ≡ at' ! rule.OutOfRange)))

  abbrev Based : Limits → Range → Type 0
  Based q r = (u : Option TypeNo) × GoTogether q.0.0 q.1.0 u
      × ((base : TypeNo) × SelectsIn (Constant u q.0.1) base × (Fine q base × (r ≡ range_of base q.0.1 q.1.1)))

  abbrev NotBased : Pos → Pos → Limits → Breach → Type 0
  NotBased at at' q f = (((u : Option TypeNo) → GoTogether q.0.0 q.1.0 u → ⊥) × (f ≡ at' ! rule.WrongType))
      ⊎ ((u : Option TypeNo) × GoTogether q.0.0 q.1.0 u
      × ((base : TypeNo) × SelectsIn (Constant u q.0.1) base × NotFine at at' q base f))

  module _ (at at' : Pos) (a b : Ordinal) where
    abbrev s : Option TypeNo
    s = a.sort

    abbrev t : Option TypeNo
    t = b.sort

    abbrev n : ℤ
    n = a.number

    abbrev m : ℤ
    m = b.number

    abbrev lim : Limits
    lim = ((s, n), (t, m))

    order_tests : (less : Bool) → int_lt m n ≡ less
        → Tests g j lawful O (int_lt m n ≡ true → ⊥) (λ f. (int_lt m n ≡ true) × (f ≡ at ! rule.EmptyRange))
        (reported_where g less at rule.EmptyRange (Ok tt))
    order_tests true e = stopped g j lawful O at rule.EmptyRange (λ c. c e) (e, refl) (λ f z. z.1)
    order_tests false e = passes tt (λ z. let w : true ≡ false = sym z ∙ e in absurd cc)
        (λ f z. let w : true ≡ false = sym z.0 ∙ e in absurd cc)

    fit_tests : (spot : Pos) (base : TypeNo) (sort : Option TypeNo) (k : ℤ) → (sort ≡ None → IsWhole base)
        → Tests g j lawful O (Suits (Some base) (Constant sort k))
        (λ f. (Suits (Some base) (Constant sort k) → ⊥) × (f ≡ spot ! rule.OutOfRange)) (fits_base g spot base sort k)
    fit_tests spot base (Some u) k w = passes tt has_type (λ f z. z.0 has_type)
    fit_tests spot base None k w = where_checks g j lawful O tt (fits (Some base) k) spot rule.OutOfRange
        (suits_decided k (w refl))

    all_tests : (base : TypeNo) → (s ≡ None → IsWhole base) → (t ≡ None → IsWhole base)
        → Tests g j lawful O (Fine lim base) (NotFine at at' lim base)
        (beside g (bounds_in_order g at n m) (beside g (fits_base g at base s n) (fits_base g at' base t m)))
    all_tests base w v = checks_as g j lawful O (λ p. record { upward = p.0; low_suits = p.1.0; high_suits = p.1.1 })
        (λ q. (q.upward, (q.low_suits, q.high_suits))) (λ f z. z) (λ f z. z)
        (beside_checks g j lawful O (order_tests (int_lt m n) refl)
        (beside_checks g j lawful O (fit_tests at base s n w) (fit_tests at' base t m v)))

    left_whole : {u : Option TypeNo} {base : TypeNo} → GoTogether s t u → SelectsIn (Constant u n) base → s ≡ None
        → IsWhole base
    left_whole {u = u} {base = base} h i e = by s t u h e i
      where
        by : (s t u : Option TypeNo) → GoTogether s t u → s ≡ None → SelectsIn (Constant u n) base → IsWhole base
        by _ _ _ amounts.same_type e i = absurd cc
        by _ _ _ amounts.numbers e i = number_whole i
        by _ _ _ (amounts.number_left w) e constant_type = w
        by _ _ _ (amounts.number_right w) e i = absurd cc

    right_whole : {u : Option TypeNo} {base : TypeNo} → GoTogether s t u → SelectsIn (Constant u n) base → t ≡ None
        → IsWhole base
    right_whole {u = u} {base = base} h i e = by s t u h e i
      where
        by : (s t u : Option TypeNo) → GoTogether s t u → t ≡ None → SelectsIn (Constant u n) base → IsWhole base
        by _ _ _ amounts.same_type e i = absurd cc
        by _ _ _ amounts.numbers e i = number_whole i
        by _ _ _ (amounts.number_left w) e i = absurd cc
        by _ _ _ (amounts.number_right w) e constant_type = w

    between_by : (o : Option (Option TypeNo)) → TogetherIs s t o
        → Answers g j O IsRange (Based lim) (NotBased at at' lim) (between g at a at' b o)
    between_by _ (apart c) = declined g j lawful O at' rule.WrongType (λ r z. c z.0 z.1) (inl (c, refl))
        (λ f z. elim z [ inl y ↦ y.1 | inr y ↦ absurd (c y.0 y.1) ])
    between_by _ (together u h only) = let base = base_of u n in let i = base_selects u n in
        exact g j lawful O {M = λ r. Fine lim base × (r ≡ range_of base n m)}
        {B = λ f. NotFine at at' lim base f ⊎ (Fine lim base × ⊥)} (λ r z. (u, h, (base, i, z))) (λ r z. back z)
        (λ f z. elim z [ inl y ↦ inr (u, h, (base, i, y)) | inr y ↦ absurd y.1 ]) (λ f z. inl (fails z))
        (then_checked g j lawful O (all_tests base (left_whole h i) (right_whole h i))
        (λ x p. fine g j lawful O (range_of base n m) (range_of base n m) refl))
      where
        same : {v : Option TypeNo} {c : TypeNo} → GoTogether s t v → SelectsIn (Constant v n) c → c ≡ base_of u n
        same {v = v} {c = c} k q = one_base (base_selects u n)
            (subst (λ (w : Option TypeNo). SelectsIn (Constant w n) c) (only v k) q)

        back : {r : Range} → Based lim r → Fine lim (base_of u n) × (r ≡ range_of (base_of u n) n m)
        back (v, k, (c, q, (w, e))) = (
          subst (Fine lim) (same k q) w,
          e
              ∙ ap (λ (x : TypeNo). range_of x n m) (same k q),
        )

        fails : {f : Breach} → NotBased at at' lim f → NotFine at at' lim (base_of u n) f
        fails (inl y) = absurd (y.0 u h)
        fails {f = f} (inr (v, k, (c, q, w))) = subst (λ (x : TypeNo). NotFine at at' lim x f) (same k q) w

  between_answers : (at at' : Pos) (a b : Ordinal) (p q : Number) → IsOrdinal a p → IsOrdinal b q
      → Answers g j O IsRange (Based (p, q)) (NotBased at at' (p, q)) (between g at a at' b (common a.sort b.sort))
  between_answers at at' _ _ _ _ (is_ordinal a) (is_ordinal b) =
      between_by at at' a b (common a.sort b.sort) (common_is a.sort b.sort)

  -- ---- bounds under a type

  abbrev Upward : Limits → Type 0
  Upward q = IsEmpty q.0.0 q.1.0 q.0.1 q.1.1 → ⊥

  module _ {M N : Number → Type 0} {B C : Breach → Type 0} {a b : Result Ordinal g.Reported} (at at' : Pos)
      (low : Answers g j O IsOrdinal M B a) (high : Answers g j O IsOrdinal N C b) where
    abbrev UnnamedIs : Range → Type 0
    UnnamedIs r = (q : Limits) × (M q.0 × N q.1) × Based q r

    abbrev UnnamedFails : Breach → Type 0
    UnnamedFails f = (B f ⊎ C f) ⊎ ((q : Limits) × (M q.0 × N q.1) × NotBased at at' q f)

    pub unnamed_answers : Answers g j O IsRange UnnamedIs UnnamedFails (subrange_between g at a at' b)
    unnamed_answers = then_answer g j lawful O {N = Based} {D = NotBased at at'} (both_answer g j lawful O low high)
        (λ x q i. between_answers at at' x.0 x.1 q.0 q.1 i.0 i.1)

  abbrev Downward : Pos → Limits → Breach → Type 0
  Downward at q f = IsEmpty q.0.0 q.1.0 q.0.1 q.1.1 × (f ≡ at ! rule.EmptyRange)

  less_of : {s t : Option TypeNo} {n m : ℤ} → IsEmpty s t n m → int_lt m n ≡ true
  less_of (is_empty u e) = e

  goes_of : {s t : Option TypeNo} {n m : ℤ} → IsEmpty s t n m → (u : Option TypeNo) × GoTogether s t u
  goes_of (is_empty {u = u} z e) = (u, z)

  alike_by : (at : Pos) (a b : Ordinal) (o : Option (Option TypeNo)) (less : Bool) → int_lt b.number a.number ≡ less
      → TogetherIs a.sort b.sort o
      → Tests g j lawful O (Upward ((a.sort, a.number), (b.sort, b.number)))
      (Downward at ((a.sort, a.number), (b.sort, b.number))) (ordered_if g at a b o)
  alike_by at a b _ less e (apart n) = passes tt (λ z. let q = goes_of z in n q.0 q.1)
      (λ f z. let q = goes_of z.0 in n q.0 q.1)
  alike_by at a b _ true e (together u t only) =
      subst (λ (l : Bool). Tests g j lawful O (Upward ((a.sort, a.number), (b.sort, b.number)))
      (Downward at ((a.sort, a.number), (b.sort, b.number))) (reported_where g l at rule.EmptyRange (Ok tt))) (sym e)
      (stopped g j lawful O at rule.EmptyRange (λ n. n (is_empty t e)) (is_empty t e, refl) (λ f z. z.1))
  alike_by at a b _ false e (together u t only) =
      subst (λ (l : Bool). Tests g j lawful O (Upward ((a.sort, a.number), (b.sort, b.number)))
      (Downward at ((a.sort, a.number), (b.sort, b.number))) (reported_where g l at rule.EmptyRange (Ok tt))) (sym e)
      (passes tt (λ z. let clash : true ≡ false = sym (less_of z) ∙ e in absurd cc)
      (λ f z. let clash : true ≡ false = sym (less_of z.0) ∙ e in absurd cc))

  alike_tests : (at : Pos) (a b : Ordinal) (p q : Number) → IsOrdinal a p → IsOrdinal b q
      → Tests g j lawful O (Upward (p, q)) (Downward at (p, q)) (ordered_if g at a b (common a.sort b.sort))
  alike_tests at _ _ _ _ (is_ordinal a) (is_ordinal b) =
      alike_by at a b (common a.sort b.sort) (int_lt b.number a.number) refl (common_is a.sort b.sort)

  under_base : (base : TypeNo) (sort : Option TypeNo) → Decided (IsOfBase (Some base) sort) (is_of_base base sort)
  under_base base None = base_decided base None
  under_base base (Some t) = base_decided base (Some t)

  abbrev UnderIt : Range → Number → Type 0
  UnderIt r p = IsUnder r p.0 p.1

  abbrev OverIt : Pos → Range → Number → Breach → Type 0
  OverIt at r p f = Exceeds at r p.0 p.1 f

  under_tests : (at : Pos) (c r : Range) (a : Ordinal) (p : Number) → c ≡ r → IsOrdinal a p
      → Tests g j lawful O (UnderIt r p) (OverIt at r p) (is_of g c at a)
  under_tests at c r _ _ e (is_ordinal a) =
      subst (λ (r : Range). Tests g j lawful O (IsUnder r a.sort a.number) (Exceeds at r a.sort a.number)
      (is_of g c at a)) e
      (checks_as g j lawful O (λ p. record { of_base = p.0; in_type = p.1 }) (λ u. (u.of_base, u.in_type))
      (λ f z. into f z) (λ f z. out z)
      (where_also g j lawful O {Q = Within c.low a.number c.high}
      {C = λ f. (Within c.low a.number c.high → ⊥) × (f ≡ at ! rule.OutOfRange)} (is_of_base c.base a.sort) at
      rule.WrongType (under_base c.base a.sort)
      (λ p. where_checks g j lawful O tt (is_between c.low a.number c.high) at rule.OutOfRange
      (within_decided c.low a.number c.high))))
    where
      into : (f : Breach) → ((IsOfBase (Some c.base) a.sort → ⊥) × (f ≡ at ! rule.WrongType))
          ⊎ (IsOfBase (Some c.base) a.sort × ((Within c.low a.number c.high → ⊥) × (f ≡ at ! rule.OutOfRange)))
          → Exceeds at c a.sort a.number f
      into f (inl (n, q)) = subst (Exceeds at c a.sort a.number) (sym q) (rules.other_base n)
      into f (inr (w, (n, q))) = subst (Exceeds at c a.sort a.number) (sym q) (rules.not_in_type w n)

      out : {f : Breach} → Exceeds at c a.sort a.number f
          → ((IsOfBase (Some c.base) a.sort → ⊥) × (f ≡ at ! rule.WrongType))
          ⊎ (IsOfBase (Some c.base) a.sort × ((Within c.low a.number c.high → ⊥) × (f ≡ at ! rule.OutOfRange)))
      out (rules.other_base n) = inl (n, refl)
      out (rules.not_in_type w n) = inr (w, (n, refl))

  module _ {Q : Range → Type 0} {M N : Number → Type 0} {E B C : Breach → Type 0} {of : Result Range g.Reported}
      {a b : Result Ordinal g.Reported} (at at' : Pos) (named : Answers g j O IsRange Q E of)
      (low : Answers g j O IsOrdinal M B a) (high : Answers g j O IsOrdinal N C b) where
    abbrev Under : (Number → Type 0) → Type 0
    Under P = (k : Range × Number) × (Q k.0 × P k.1) × UnderIt k.0 k.1

    abbrev Over : (Number → Type 0) → Pos → Breach → Type 0
    Over P spot f = (k : Range × Number) × (Q k.0 × P k.1) × OverIt spot k.0 k.1 f

    abbrev UnderIs : Range → Type 0
    UnderIs r = (k : Range × Limits) × (Q k.0 × (M k.1.0 × N k.1.1))
        × ((UnderIt k.0 k.1.0 × UnderIt k.0 k.1.1) × (Upward k.1 × (r ≡ range_of k.0.base k.1.0.1 k.1.1.1)))

    abbrev UnderFails : Breach → Type 0
    UnderFails f = (E f ⊎ (B f ⊎ C f)) ⊎ ((Over M at f ⊎ Over N at' f)
        ⊎ ((q : Limits) × (M q.0 × N q.1) × Downward at q f))

    abbrev Fitting : Type 0
    Fitting = (Under M × Under N) × ((q : Limits) × (M q.0 × N q.1) × Upward q)

    abbrev Unfit : Breach → Type 0
    Unfit f = (((E f ⊎ B f) ⊎ Over M at f) ⊎ ((E f ⊎ C f) ⊎ Over N at' f))
        ⊎ ((B f ⊎ C f) ⊎ ((q : Limits) × (M q.0 × N q.1) × Downward at q f))

    all_fit : Checks g j lawful O {A = Unit {0}} Fitting Unfit (are_bounds g of at a at' b)
    all_fit = beside_checks g j lawful O
        (beside_checks g j lawful O (then_check g j lawful O {P = λ k. UnderIt k.0 k.1} {D = λ k. OverIt at k.0 k.1}
        (both_answer g j lawful O named low) (λ x k i. under_tests at x.0 k.0 x.1 k.1 i.0 i.1))
        (then_check g j lawful O {P = λ k. UnderIt k.0 k.1} {D = λ k. OverIt at' k.0 k.1}
        (both_answer g j lawful O named high) (λ x k i. under_tests at' x.0 k.0 x.1 k.1 i.0 i.1)))
        (then_check g j lawful O {P = Upward} {D = Downward at} (both_answer g j lawful O low high)
        (λ x q i. alike_tests at x.0 x.1 q.0 q.1 i.0 i.1))

    abbrev All : Type 0
    All = (Range × Limits) × Unit {0}

    number_is : {x : Ordinal} {p : Number} → IsOrdinal x p → x.number ≡ p.1
    number_is (is_ordinal x) = refl

    pub under_answers : Answers g j O IsRange UnderIs UnderFails (under g of at a at' b)
    under_answers = exact g j lawful O {M = λ r. (k : All) × ((Q k.0.0 × (M k.0.1.0 × N k.0.1.1)) × Fitting)
        × (r ≡ range_of k.0.0.base k.0.1.0.1 k.0.1.1.1)}
        {B = λ f. ((E f ⊎ (B f ⊎ C f)) ⊎ Unfit f) ⊎ ((k : All) × ((Q k.0.0 × (M k.0.1.0 × N k.0.1.1)) × Fitting) × ⊥)}
        (λ r z. into r z) (λ r z. out r z) (λ f z. fails_in f z) (λ f z. fails_out f z)
        (then_answer g j lawful O {N = λ k r. r ≡ range_of k.0.0.base k.0.1.0.1 k.0.1.1.1} {D = λ k f. ⊥}
        (both_answer g j lawful O (both_answer g j lawful O named (both_answer g j lawful O low high))
        (checks_answer g j lawful O all_fit))
        (λ x k i. made x.0 k.0 i.0))
      where
        made : (x : Range × (Ordinal × Ordinal)) (k : Range × Limits) → (x.0 ≡ k.0)
            × (IsOrdinal x.1.0 k.1.0 × IsOrdinal x.1.1 k.1.1)
            → Answers g j O IsRange (λ r. r ≡ range_of k.0.base k.1.0.1 k.1.1.1) (λ f. ⊥)
            (Ok (record { base = x.0.base; low = x.1.0.number; high = x.1.1.number }))
        made x k i = means (range_of x.0.base x.1.0.number x.1.1.number) (range_of k.0.base k.1.0.1 k.1.1.1)
            (range_same (ap (λ (r : Range). r.base) i.0) (number_is i.1.0) (number_is i.1.1)) refl (λ l e. e) (λ f z. z)

        into : (r : Range) → (k : All) × ((Q k.0.0 × (M k.0.1.0 × N k.0.1.1)) × Fitting)
            × (r ≡ range_of k.0.0.base k.0.1.0.1 k.0.1.1.1) → UnderIs r
        into r (k, ((q, (m, n)), ((((c, p), (qc, mp), u), ((d, x), (qd, nx), v)), (l, (ml, nl), w))), e) = (
          k.0,
          (q, (m, n)),
          (
            (
              subst (λ (p : Number). UnderIt k.0.0 p) (one_meaning g j lawful O low p k.0.1.0 mp m)
                  (subst (λ (c : Range). UnderIt c p) (one_meaning g j lawful O named c k.0.0 qc q) u),
              subst (λ (p : Number). UnderIt k.0.0 p) (one_meaning g j lawful O high x k.0.1.1 nx n)
                  (subst (λ (c : Range). UnderIt c x) (one_meaning g j lawful O named d k.0.0 qd q) v),
            ),
            (
              subst (λ (y : Number). Upward (k.0.1.0, y)) (one_meaning g j lawful O high l.1 k.0.1.1 nl n)
                  (subst (λ (y : Number). Upward (y, l.1)) (one_meaning g j lawful O low l.0 k.0.1.0 ml m) w),
              e,
            ),
          ),
        )

        out : (r : Range) → UnderIs r → (k : All) × ((Q k.0.0 × (M k.0.1.0 × N k.0.1.1)) × Fitting)
            × (r ≡ range_of k.0.0.base k.0.1.0.1 k.0.1.1.1)
        out r (k, (q, (m, n)), ((u, v), (w, e))) =
            ((k, tt), ((q, (m, n)), ((((k.0, k.1.0), (q, m), u), ((k.0, k.1.1), (q, n), v)), (k.1, (m, n), w))), e)

        unfit : (f : Breach) → Unfit f → UnderFails f
        unfit f (inl (inl (inl (inl e)))) = inl (inl e)
        unfit f (inl (inl (inl (inr b)))) = inl (inr (inl b))
        unfit f (inl (inl (inr y))) = inr (inl (inl y))
        unfit f (inl (inr (inl (inl e)))) = inl (inl e)
        unfit f (inl (inr (inl (inr c)))) = inl (inr (inr c))
        unfit f (inl (inr (inr y))) = inr (inl (inr y))
        unfit f (inr (inl b)) = inl (inr b)
        unfit f (inr (inr y)) = inr (inr y)

        fails_in : (f : Breach) → ((E f ⊎ (B f ⊎ C f)) ⊎ Unfit f)
            ⊎ ((k : All) × ((Q k.0.0 × (M k.0.1.0 × N k.0.1.1)) × Fitting) × ⊥) → UnderFails f
        fails_in f (inl (inl b)) = inl b
        fails_in f (inl (inr u)) = unfit f u
        fails_in f (inr y) = absurd y.2

        fails_out : (f : Breach) → UnderFails f → ((E f ⊎ (B f ⊎ C f)) ⊎ Unfit f)
            ⊎ ((k : All) × ((Q k.0.0 × (M k.0.1.0 × N k.0.1.1)) × Fitting) × ⊥)
        fails_out f (inl b) = inl (inl b)
        fails_out f (inr (inl (inl y))) = inl (inr (inl (inl (inr y))))
        fails_out f (inr (inl (inr y))) = inl (inr (inl (inr (inr y))))
        fails_out f (inr (inr y)) = inl (inr (inr (inr y)))

-- ---- as they are written

module _ (g : Gathers) (j : Judges g) (lawful : Lawful g j) (names : Ident → Standing) (exports : ℕ → Ident → Standing)
    (s : Scope g.Reported) (knows : Knows g j names exports s) where
  abbrev R : Breach → Type 0
  R = Repeats g j names s

  abbrev Bound : Expr → Number → Type 0
  Bound e p = IsTypeBound s.types names exports e p.0 p.1

  abbrev BrokenBound : Expr → Breach → Type 0
  BrokenBound = BrokenTypeBound s.types names exports

  bound_parts : {e : Expr} {sort : Option TypeNo} {n : ℤ} → IsTypeBound s.types names exports e sort n → (k : Kind)
      × Fixes s.types names exports e (AConstant k) × (operand k ≡ Scalar (Constant sort n))
  bound_parts (is_type_bound {k = k} m e) = (k, m, e)

  bound_fails : {e : Expr} (f : Breach) → BrokenBound e f → BrokenAsConstant s.types names exports e f
      ⊎ ((k : Kind) × Fixes s.types names exports e (AConstant k) × NoOrdinal g j lawful R (first e) (operand k) f)
  bound_fails f (rules.in_type_bound b) = inl b
  bound_fails _ (rules.no_ordinal {k = k} m n) = inr (k, m, (n, refl))

  fails_bound : {e : Expr} (f : Breach) → BrokenAsConstant s.types names exports e f
      ⊎ ((k : Kind) × Fixes s.types names exports e (AConstant k) × NoOrdinal g j lawful R (first e) (operand k) f)
      → BrokenBound e f
  fails_bound f (inl b) = rules.in_type_bound b
  fails_bound {e = e} f (inr (k, m, (n, q))) = subst (BrokenBound e) (sym q) (rules.no_ordinal m n)

  bound_is : (e : Expr) → Answers g j R IsOrdinal (Bound e) (BrokenBound e)
      (bound_of g (first e) (constant g s (part g e)))
  bound_is e = exact g j lawful R (λ p z. is_type_bound z.1 z.2) (λ p z. bound_parts z) fails_bound bound_fails
      (then_answer g j lawful R {N = λ k p. OrdinalOf g j lawful R (operand k) p}
      {D = λ k f. NoOrdinal g j lawful R (first e) (operand k) f} (exactly_fixed g j lawful names exports s knows e)
      (λ v k q. ordinal_answers g j lawful R (first e) v k q))

  -- the range of a name

  abbrev NoRange : Qualified → TypeNo → Breach → Type 0
  NoRange q t f = ((r : Range) → IsMade s.types t (shape.Scalar r) → ⊥) × (f ≡ first_of q ! rule.NoType)

  range_in : (r : Range) → Shape → Range
  range_in r (shape.Scalar x) = x
  range_in r other = r

  abbrev ScalarIn : Option Shape → Range → Type 0
  ScalarIn o r = o ≡ Some (shape.Scalar r)

  shape_scalar : {x r : Range} → ◌≡◌ {A = Option Shape} (Some (shape.Scalar x)) (Some (shape.Scalar r)) → r ≡ x
  shape_scalar e = cc

  scalar_by : (at : Pos) (o : Option Shape)
      → Answers g j R (λ (a r : Range). a ≡ r) (ScalarIn o)
      (λ f. ((r : Range) → ScalarIn o r → ⊥) × (f ≡ at ! rule.NoType)) (scalar_or g at (scalar_of o))
  scalar_by at None = declined g j lawful R at rule.NoType (λ r e. absurd cc) ((λ r e. absurd cc), refl) (λ f z. z.1)
  scalar_by at (Some (shape.Scalar r)) = means r r refl refl (λ x e. shape_scalar e) (λ f z. z.0 r refl)
  scalar_by at (Some shape.Set) = declined g j lawful R at rule.NoType (λ r e. absurd cc) ((λ r e. absurd cc), refl)
      (λ f z. z.1)
  scalar_by at (Some (shape.Array i e)) =
      declined g j lawful R at rule.NoType (λ r e. absurd cc) ((λ r e. absurd cc), refl) (λ f z. z.1)
  scalar_by at (Some (shape.Record fs)) =
      declined g j lawful R at rule.NoType (λ r e. absurd cc) ((λ r e. absurd cc), refl) (λ f z. z.1)
  scalar_by at (Some (shape.Procedure h)) =
      declined g j lawful R at rule.NoType (λ r e. absurd cc) ((λ r e. absurd cc), refl) (λ f z. z.1)
  scalar_by at (Some (shape.Open e)) = declined g j lawful R at rule.NoType (λ r e. absurd cc)
      ((λ r e. absurd cc), refl) (λ f z. z.1)

  scalar_answers : (q : Qualified) (t u : TypeNo) → t ≡ u
      → Answers g j R (λ (a r : Range). a ≡ r) (λ r. IsMade s.types u (shape.Scalar r)) (NoRange q u)
      (scalar_or g (first_of q) (scalar_at s.types t))
  scalar_answers q t u e = subst (λ (u : TypeNo). Answers g j R (λ (a r : Range). a ≡ r)
      (λ r. IsMade s.types u (shape.Scalar r)) (NoRange q u) (scalar_or g (first_of q) (scalar_at s.types t))) e
      (subst (λ (o : Option Range). Answers g j R (λ (a r : Range). a ≡ r) (λ r. IsMade s.types t (shape.Scalar r))
      (NoRange q t) (scalar_or g (first_of q) o)) (sym (scalar_is s.types t))
      (scalar_by (first_of q) (shape_at s.types t)))

  abbrev Named : Qualified → Range → Type 0
  Named q r = (t : TypeNo) × NamesType names exports q t × IsMade s.types t (shape.Scalar r)

  abbrev NotNamed : Qualified → Breach → Type 0
  NotNamed q f = BrokenTypeName names exports q f ⊎ ((t : TypeNo) × NamesType names exports q t × NoRange q t f)

  range_named : (q : Qualified) → Answers g j R (λ (a r : Range). a ≡ r) (Named q) (NotNamed q) (scalar_named g s q)
  range_named q = then_answer g j lawful R {N = λ t r. IsMade s.types t (shape.Scalar r)} {D = NoRange q}
      (type_name_answers g j lawful names exports s knows q) (λ t u e. scalar_answers q t u e)

  -- ---- both sorts

  module _ (low high : Expr) where
    abbrev Sub : Option Qualified → Range → Type 0
    Sub = IsSubrange s.types names exports low high

    abbrev BrokenSub : Option Qualified → Breach → Type 0
    BrokenSub = BrokenSubrange s.types names exports low high

    abbrev FreeIs : Range → Type 0
    FreeIs r = (q : Limits) × (Bound low q.0 × Bound high q.1) × Based g j lawful R q r

    abbrev FreeFails : Breach → Type 0
    FreeFails f = (BrokenBound low f ⊎ BrokenBound high f)
        ⊎ ((q : Limits) × (Bound low q.0 × Bound high q.1) × NotBased g j lawful R (first low) (first high) q f)

    free_in : (r : Range) → FreeIs r → Sub None r
    free_in r (q, (m, n), (u, h, (base, x, (w, e)))) =
        subst (Sub None) (sym e) (rules.of_bounds m n h x (λ z. w.upward (less_of g j lawful R z)) w.low_suits
        w.high_suits)

    free_out : {r : Range} → Sub None r → FreeIs r
    free_out (rules.of_bounds {s = a} {t = b} {u = u} {n = n} {m = m} {base = base} l h z x e p q) = (
      ((a, n), (b, m)),
      (l, h),
      (
        u,
        z,
        (
          base,
          x,
          (record { upward = λ w. e (is_empty z w); low_suits = p; high_suits = q }, refl),
        ),
      ),
    )

    free_broken : (f : Breach) → FreeFails f → BrokenSub None f
    free_broken f (inl (inl b)) = rules.in_low b
    free_broken f (inl (inr b)) = rules.in_high b
    free_broken f (inr (q, (m, n), inl (c, e))) = subst (BrokenSub None) (sym e) (rules.unlike m n c)
    free_broken f (inr (q, (m, n), inr (u, h, (base, x, inl (w, e))))) =
        subst (BrokenSub None) (sym e) (rules.empty m n (is_empty h w))
    free_broken f (inr (q, (m, n), inr (u, h, (base, x, inr (inl (w, e)))))) =
        subst (BrokenSub None) (sym e) (rules.low_not_in_base m n h x w)
    free_broken f (inr (q, (m, n), inr (u, h, (base, x, inr (inr (w, e)))))) =
        subst (BrokenSub None) (sym e) (rules.high_not_in_base m n h x w)

    broken_free : {f : Breach} → BrokenSub None f → FreeFails f
    broken_free (rules.in_low b) = inl (inl b)
    broken_free (rules.in_high b) = inl (inr b)
    broken_free (rules.empty {s = a} {t = b} {n = n} {m = m} l h e) = let z = goes_of g j lawful R e in
        inr (
          ((a, n), (b, m)),
          (l, h),
          inr (
            z.0,
            z.1,
            (base_of z.0 n, base_selects z.0 n, inl (less_of g j lawful R e, refl)),
          ),
        )
    broken_free (rules.unlike {s = a} {t = b} {n = n} {m = m} l h c) = inr (((a, n), (b, m)), (l, h), inl (c, refl))
    broken_free (rules.low_not_in_base {s = a} {t = b} {u = u} {n = n} {m = m} {base = base} l h z x w) =
        inr (((a, n), (b, m)), (l, h), inr (u, z, (base, x, inr (inl (w, refl)))))
    broken_free (rules.high_not_in_base {s = a} {t = b} {u = u} {n = n} {m = m} {base = base} l h z x w) =
        inr (((a, n), (b, m)), (l, h), inr (u, z, (base, x, inr (inr (w, refl)))))

    module _ (q : Qualified) where
      abbrev HeldIs : Range → Type 0
      HeldIs r = UnderIs g j lawful R (first low) (first high) (range_named q) (bound_is low) (bound_is high) r

      abbrev HeldFails : Breach → Type 0
      HeldFails f = UnderFails g j lawful R (first low) (first high) (range_named q) (bound_is low) (bound_is high) f

      range_parts : {r : Range} → NamesRange s.types names exports q r → Named q r
      range_parts (names_range {t = t} n m) = (t, n, m)

      held_in : (r : Range) → HeldIs r → Sub (Some q) r
      held_in r (x, (p, (m, n)), ((u, v), (w, e))) =
          subst (Sub (Some q)) (sym e) (rules.of_type (names_range p.1 p.2) m n u v w)

      held_out : {r : Range} → Sub (Some q) r → HeldIs r
      held_out (rules.of_type {r = r} {s = a} {t = b} {n = n} {m = m} p l h u v w) =
          ((r, ((a, n), (b, m))), (range_parts p, (l, h)), ((u, v), (w, refl)))

      held_broken : (f : Breach) → HeldFails f → BrokenSub (Some q) f
      held_broken f (inl (inl (inl b))) = rules.in_type_name b
      held_broken f (inl (inl (inr (t, n, (c, e))))) =
          subst (BrokenSub (Some q)) (sym (e ∙ ap (λ (at : Pos). at ! rule.NoType) (place_same q.module q.name)))
          (rules.no_scalar_type n c)
      held_broken f (inl (inr (inl b))) = rules.in_low b
      held_broken f (inl (inr (inr b))) = rules.in_high b
      held_broken f (inr (inl (inl (x, (p, m), e)))) = rules.low_exceeds (names_range p.1 p.2) m e
      held_broken f (inr (inl (inr (x, (p, m), e)))) = rules.high_exceeds (names_range p.1 p.2) m e
      held_broken f (inr (inr (l, (m, n), (e, w)))) = subst (BrokenSub (Some q)) (sym w) (rules.empty m n e)

      broken_held : {f : Breach} → BrokenSub (Some q) f → HeldFails f
      broken_held (rules.in_low b) = inl (inr (inl b))
      broken_held (rules.in_high b) = inl (inr (inr b))
      broken_held (rules.empty {s = a} {t = b} {n = n} {m = m} l h e) = inr (inr (((a, n), (b, m)), (l, h), (e, refl)))
      broken_held (rules.in_type_name b) = inl (inl (inl b))
      broken_held (rules.no_scalar_type {t = t} n c) =
          inl (inl (inr (t, n, (c, ap (λ (at : Pos). at ! rule.NoType) (sym (place_same q.module q.name))))))
      broken_held (rules.low_exceeds {r = r} {sort = a} {n = n} p l e) =
          inr (inl (inl ((r, (a, n)), (range_parts p, l), e)))
      broken_held (rules.high_exceeds {r = r} {sort = a} {n = n} p l e) =
          inr (inl (inr ((r, (a, n)), (range_parts p, l), e)))

    abbrev SubSo : Option Qualified → Result Range g.Reported → Type 0
    SubSo q r = Answers g j R (λ (a r : Range). a ≡ r) (Sub q) (BrokenSub q) r

    abbrev by_places : Option Qualified → Pos → Pos → Result Range g.Reported
    by_places None at at' = subrange_between g at (bound_of g at (constant g s (part g low))) at'
        (bound_of g at' (constant g s (part g high)))
    by_places (Some q) at at' = under g (scalar_named g s q) at (bound_of g at (constant g s (part g low))) at'
        (bound_of g at' (constant g s (part g high)))

    sub_by : (q : Option Qualified) (at at' : Pos) → first low ≡ at → first high ≡ at' → SubSo q (by_places q at at')
    sub_by None at at' e f = subst (λ (x : Pos). SubSo None
        (subrange_between g x (bound_of g x (constant g s (part g low))) at'
        (bound_of g at' (constant g s (part g high))))) e
        (subst (λ (y : Pos). SubSo None (subrange_between g (first low)
        (bound_of g (first low) (constant g s (part g low))) y (bound_of g y (constant g s (part g high))))) f
        (exact g j lawful R free_in (λ r z. free_out z) free_broken (λ f z. broken_free z)
        (unnamed_answers g j lawful R (first low) (first high) (bound_is low) (bound_is high))))
    sub_by (Some q) at at' e f = subst (λ (x : Pos). SubSo (Some q)
        (under g (scalar_named g s q) x (bound_of g x (constant g s (part g low))) at'
        (bound_of g at' (constant g s (part g high))))) e
        (subst (λ (y : Pos). SubSo (Some q) (under g (scalar_named g s q) (first low)
        (bound_of g (first low) (constant g s (part g low))) y (bound_of g y (constant g s (part g high))))) f
        (exact g j lawful R (held_in q) (λ r z. held_out q z) (held_broken q) (λ f z. broken_held q z)
        (under_answers g j lawful R (first low) (first high) (range_named q) (bound_is low) (bound_is high))))

    pub subrange_answers : (q : Option Qualified) → SubSo q (subrange g s q (part g low) (part g high))
    subrange_answers None = sub_by None (part g low).at (part g high).at (sym (at_is g low)) (sym (at_is g high))
    subrange_answers (Some q) = sub_by (Some q) (part g low).at (part g high).at (sym (at_is g low))
        (sym (at_is g high))
