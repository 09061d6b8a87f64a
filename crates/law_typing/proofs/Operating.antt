-- Operators answer exactly.
use Rattle.std.proofs.Common.{◌≡◌, ℤ, pos, Bool, true, false, not, cond, Option, Some, None, Result, Ok, ◌⊎◌, inl, inr, refl, sym, ap, subst, ◌∙◌}
use Rattle.std.specs.Prelude.{int_lt}
use Rattle.m2_tree.specs.declared.pos.Pos.{Pos}
use Rattle.m2_tree.specs.declared.expr.RelOp.TheVariants as rel
use Rattle.typed_tree.specs.declared.types.TypeNo.{TypeNo}
use Rattle.typed_tree.specs.declared.computed.TypedExpr.{TypedExpr}
use Rattle.typed_tree.specs.declared.meaning.Value.{Value as ConstantValue}
use Rattle.typed_tree.specs.Types.{boolean}
use Rattle.m2_rule.specs.declared.breach.Breach.{Breach}
use Rattle.check_scope.specs.Elaborated.{Gathers, report, reported_where, ◌▷◌}
use Rattle.check_const.specs.declared.operand.Ordinal.{Ordinal}
use Rattle.check_const.specs.declared.operator.BinaryOp.{BinaryOp}
use Rattle.check_const.specs.declared.operator.BinaryOp.TheVariants.{Plus, Minus, Times, Over, Div, Mod, And, Or, Relation}
use Rattle.check_const.specs.Operands.{number_value}
use Rattle.check_const.specs.Numbers.{fits, number_at}
use Rattle.check_const.specs.Operate.{takes, fitting, ordinal_result, on_scalars}
use Rattle.check_value.specs.declared.computed.Computed.{Computed}
use Rattle.check_value.specs.declared.computed.Computed.TheVariants as computed
use Rattle.check_value.specs.declared.side.Amount.{Amount as Sided}
use Rattle.check_value.specs.declared.side.Amount.TheVariants.{Known, Run}
use Rattle.check_value.specs.Operations.{fitting_both, fitting_of, divisor_of, step_or_refusal, on_amounts, of_value, step_of}
use Rattle.def_typing.specs.Amounts as k
use Rattle.def_typing.specs.Amounts.{Amount, Constant, Value, IsWhole, IsNumber, InRange, Suits, GoTogether, IsArithmetic, IsLogical, IsComparison, IsDivision, BelowOne, Evaluates, Says, Takes, Fits, AreRight, Yields, IsComputed, Gives, truth}
use Rattle.m2_rule.specs.declared.rule.Rule.{Rule}
use Rattle.m2_rule.specs.declared.rule.Rule.TheVariants as rule
use Rattle.def_typing.specs.Operators.{◌!◌, Kind, Scalar, Overreaches}
use Rattle.def_typing.specs.Operators as rules
use Rattle.law_typing.specs.Judging.{Judges, Answers, means, refuses}
use Rattle.typed_tree.specs.declared.meaning.ScalarValue.{ScalarValue}
use Rattle.typed_tree.specs.declared.meaning.Value.TheVariants as value
use Rattle.law_typing.specs.Exact.{IsKind, kind_constant, kind_scalar}
use Rattle.law_typing.proofs.Combining.{Lawful, fails_it, decided_as, fine, declined, exact, Tests, where_also, where_answers, where_checks, no_check, beside_checks, checks_as, then_checked}
use Rattle.law_typing.proofs.Deciding.{takes_decided, takes_number, takes_nothing, not_both, no_comparison, range_decided, TogetherIs, together, apart, some_same}

-- what an operand is
abbrev pub kind_of : Sided → Amount
kind_of (Known a) = Constant a.sort a.number
kind_of (Run b e) = Value b

-- a constant that is a scalar
pub data IsAmount : ConstantValue → Amount → Type 0 where
  of_literals : (n : ℤ) → IsAmount (value.Number n) (Constant None n)
  of_scalar : (c : ScalarValue) → IsAmount (value.Scalar c) (Constant (Some c.base) c.number)

-- a value that is a scalar
abbrev pub IsScalar : Computed → Amount → Type 0
IsScalar v a = IsKind v (Scalar a)

pub valued_is : (sort : Option TypeNo) (n : ℤ) → IsAmount (number_value sort n) (Constant sort n)
valued_is None n = of_literals n
valued_is (Some t) n = of_scalar (record { of = t; base = t; number = n })

-- the refusals at an operator between two scalars
pub data Wrongly (op : BinaryOp) (spot left right : Pos) (a b : Amount) : Breach → Type 0 where
  unfit : ((sort : Option TypeNo) → Fits op a b sort → ⊥) → Wrongly op spot left right a b (spot ! rule.WrongType)
  overreaches : {f : Breach} → Overreaches op spot left right a b f → Wrongly op spot left right a b f

-- ---- numbers in their places

-- a type is asked of a number only if it is INTEGER or CARDINAL
abbrev AskedOf : Option TypeNo → Amount → Type 0
AskedOf (Some t) (Constant None n) = IsWhole t
AskedOf (Some t) (Constant (Some u) n) = Unit {0}
AskedOf (Some t) (Value u) = Unit {0}
AskedOf None a = Unit {0}

asked_at : (sort : Option TypeNo) (a : Amount) → ((t : TypeNo) → sort ≡ Some t → k.sort_of a ≡ None → IsWhole t)
    → AskedOf sort a
asked_at None a h = tt
asked_at (Some t) (Constant None n) h = h t refl refl
asked_at (Some t) (Constant (Some u) n) h = tt
asked_at (Some t) (Value u) h = tt

whole_left : {a b sort : Option TypeNo} → GoTogether a b sort → (t : TypeNo) → sort ≡ Some t → a ≡ None → IsWhole t
whole_left k.same_type t e f = absurd cc
whole_left k.numbers t e f = absurd cc
whole_left (k.number_left w) t e f = subst IsWhole (ap (λ s. elim s [ None ↦ t | Some u ↦ u ]) e) w
whole_left (k.number_right w) t e f = absurd cc

whole_right : {a b sort : Option TypeNo} → GoTogether a b sort → (t : TypeNo) → sort ≡ Some t → b ≡ None → IsWhole t
whole_right k.same_type t e f = absurd cc
whole_right k.numbers t e f = absurd cc
whole_right (k.number_left w) t e f = absurd cc
whole_right (k.number_right w) t e f = subst IsWhole (ap (λ s. elim s [ None ↦ t | Some u ↦ u ]) e) w

in_its_range : {t : TypeNo} {n : ℤ} → Suits (Some t) (Constant None n) → InRange (Some t) n
in_its_range (k.takes_type r) = r

module _ (g : Gathers) (j : Judges g) (lawful : Lawful g j) (O : Breach → Type 0) where
  suits_always : {sort : Option TypeNo} {a : Amount} (at : Pos) → Suits sort a
      → Tests g j lawful O (Suits sort a) (λ f. (Suits sort a → ⊥) × (f ≡ at ! rule.OutOfRange)) (Ok tt)
  suits_always at s = no_check g j lawful O tt s (λ f x. x.0 s)

  known_fitting : (sort : Option TypeNo) (at : Pos) (s : Option TypeNo) (n : ℤ) → AskedOf sort (Constant s n)
      → Tests g j lawful O (Suits sort (Constant s n))
      (λ f. (Suits sort (Constant s n) → ⊥) × (f ≡ at ! rule.OutOfRange))
      (fitting g sort at (record { sort = s; number = n }))
  known_fitting None at None n w = suits_always at k.not_asked
  known_fitting None at (Some u) n w = suits_always at k.has_type
  known_fitting (Some t) at None n w = where_checks g j lawful O tt (fits (Some t) n) at rule.OutOfRange
      (decided_as k.takes_type in_its_range (range_decided n (k.whole w)))
  known_fitting (Some t) at (Some u) n w = suits_always at k.has_type

  fitting_checks : (sort : Option TypeNo) (at : Pos) (p : Sided) → AskedOf sort (kind_of p)
      → Tests g j lawful O (Suits sort (kind_of p)) (λ f. (Suits sort (kind_of p) → ⊥) × (f ≡ at ! rule.OutOfRange))
      (fitting_of g sort at p)
  fitting_checks sort at (Known a) w = known_fitting sort at a.sort a.number w
  fitting_checks None at (Run b e) w = suits_always at k.is_value
  fitting_checks (Some t) at (Run b e) w = suits_always at k.is_value

  -- ---- divisors

  abbrev Divides : BinaryOp → Amount → Type 0
  Divides op b = IsDivision op → BelowOne b → ⊥

  not_divided : {op : BinaryOp} {b : Amount} (spot : Pos) → (IsDivision op → ⊥)
      → Tests g j lawful O (Divides op b) (λ f. IsDivision op × BelowOne b × (f ≡ spot ! rule.OutOfRange)) (Ok tt)
  not_divided spot n = no_check g j lawful O tt (λ d. absurd (n d)) (λ f x. n x.0)

  below : {sort : Option TypeNo} {n : ℤ} → BelowOne (Constant sort n) → int_lt n (pos 1) ≡ true
  below (k.below_one e) = e

  division_by : {op : BinaryOp} (spot : Pos) (sort : Option TypeNo) (n : ℤ) (b : Bool) → int_lt n (pos 1) ≡ b
      → IsDivision op
      → Tests g j lawful O (Divides op (Constant sort n))
      (λ f. IsDivision op × BelowOne (Constant sort n) × (f ≡ spot ! rule.OutOfRange))
      (reported_where g b spot rule.OutOfRange (Ok tt))
  division_by spot sort n true e d = checks_as g j lawful O (λ x. absurd x) (λ x. x d (k.below_one e))
      (λ f x. (d, k.below_one e, x.1)) (λ f x. ((λ b. b), x.2))
      (where_checks g j lawful O {P = ⊥} tt false spot rule.OutOfRange (fails_it (λ b. b)))
  division_by spot sort n false e d = no_check g j lawful O tt
      (λ d b. let clash : true ≡ false = sym (below b) ∙ e in absurd cc)
      (λ f x. let clash : true ≡ false = sym (below x.1) ∙ e in absurd cc)

  divisor_checks : (op : BinaryOp) (spot : Pos) (q : Sided)
      → Tests g j lawful O (Divides op (kind_of q))
      (λ f. IsDivision op × BelowOne (kind_of q) × (f ≡ spot ! rule.OutOfRange)) (divisor_of g op spot q)
  divisor_checks op spot (Run b e) = no_check g j lawful O tt (λ d x. elim x [ ]) (λ f x. elim x.1 [ ])
  divisor_checks Plus spot (Known a) = not_divided spot (λ d. elim d [ ])
  divisor_checks Minus spot (Known a) = not_divided spot (λ d. elim d [ ])
  divisor_checks Times spot (Known a) = not_divided spot (λ d. elim d [ ])
  divisor_checks Over spot (Known a) = not_divided spot (λ d. elim d [ ])
  divisor_checks Div spot (Known a) = division_by spot a.sort a.number (int_lt a.number (pos 1)) refl k.by_div
  divisor_checks Mod spot (Known a) = division_by spot a.sort a.number (int_lt a.number (pos 1)) refl k.by_mod
  divisor_checks And spot (Known a) = not_divided spot (λ d. elim d [ ])
  divisor_checks Or spot (Known a) = not_divided spot (λ d. elim d [ ])
  divisor_checks (Relation r) spot (Known a) = not_divided spot (λ d. elim d [ ])

  -- ---- whether the operands are right

  module _ (op : BinaryOp) (spot left right : Pos) (a b : Amount) (sort : Option TypeNo) where
    abbrev Wrong : Breach → Type 0
    Wrong f = ((Takes op sort → ⊥) × (f ≡ spot ! rule.WrongType))
        ⊎ (Takes op sort × ((IsDivision op × BelowOne b × (f ≡ spot ! rule.OutOfRange))
        ⊎ (((Suits sort a → ⊥) × (f ≡ left ! rule.OutOfRange)) ⊎ ((Suits sort b → ⊥) × (f ≡ right ! rule.OutOfRange)))))

    module _ (go : GoTogether (k.sort_of a) (k.sort_of b) sort)
        (only : (s : Option TypeNo) → GoTogether (k.sort_of a) (k.sort_of b) s → s ≡ sort) where
      the_sort : {s : Option TypeNo} → Fits op a b s → s ≡ sort
      the_sort {s = s} h = only s h.together

      wrong_misused : (f : Breach) → Wrong f → Wrongly op spot left right a b f
      wrong_misused f (inl x) = subst (Wrongly op spot left right a b) (sym x.1)
          (unfit (λ s h. x.0 (subst (Takes op) (the_sort h) h.takes)))
      wrong_misused f (inr (t, inl x)) = subst (Wrongly op spot left right a b) (sym x.2)
          (overreaches (rules.divisor (record { together = go; takes = t }) x.0 x.1))
      wrong_misused f (inr (t, inr (inl x))) =
          subst (Wrongly op spot left right a b) (sym x.1)
          (overreaches (rules.left_number (record { together = go; takes = t }) x.0))
      wrong_misused f (inr (t, inr (inr x))) =
          subst (Wrongly op spot left right a b) (sym x.1)
          (overreaches (rules.right_number (record { together = go; takes = t }) x.0))

  right_checks : (op : BinaryOp) (spot left right : Pos) (p q : Sided) (sort : Option TypeNo)
      → GoTogether (k.sort_of (kind_of p)) (k.sort_of (kind_of q)) sort
      → Tests g j lawful O (AreRight op (kind_of p) (kind_of q) sort)
      (Wrong op spot left right (kind_of p) (kind_of q) sort) (fitting_both g op spot sort left p right q)
  right_checks op spot left right p q sort go = checks_as g j lawful O
      (λ x. record { fits = record { together = go; takes = x.0 }; divides = x.1.0; left = x.1.1.0; right = x.1.1.1 })
      (λ h. (h.fits.takes, (h.divides, (h.left, h.right)))) (λ f x. x) (λ f x. x)
      (where_also g j lawful O (takes op sort) spot rule.WrongType (takes_decided op sort)
      (λ t. beside_checks g j lawful O (divisor_checks op spot q)
      (beside_checks g j lawful O (fitting_checks sort left p (asked_at sort (kind_of p) (whole_left go)))
      (fitting_checks sort right q (asked_at sort (kind_of q) (whole_right go))))))

-- ---- what constants give

pub data Constantly (op : BinaryOp) (sort : Option TypeNo) (x y : ℤ) : Amount → Type 0 where
  a_number : {z : ℤ} → IsArithmetic op → Evaluates op x y z → InRange sort z → Constantly op sort x y (Constant sort z)
  a_truth : {b : Bool} → Says op x y b → Constantly op sort x y (truth b)

evaluates_one : {op : BinaryOp} {x y z w : ℤ} → Evaluates op x y z → Evaluates op x y w → w ≡ z
evaluates_one k.sum_is k.sum_is = refl
evaluates_one k.difference_is k.difference_is = refl
evaluates_one k.product_is k.product_is = refl
evaluates_one k.quotient_is k.quotient_is = refl
evaluates_one k.remainder_is k.remainder_is = refl

says_one : {op : BinaryOp} {x y : ℤ} {b c : Bool} → Says op x y b → Says op x y c → c ≡ b
says_one k.both_hold k.both_hold = refl
says_one k.one_holds k.one_holds = refl
says_one k.compares k.compares = refl

says_nothing : {op : BinaryOp} {x y : ℤ} {b : Bool} → IsArithmetic op → Says op x y b → ⊥
says_nothing a k.both_hold = elim a [ ]
says_nothing a k.one_holds = elim a [ ]
says_nothing a k.compares = elim a [ ]

own : {op : BinaryOp} {t u : TypeNo} → IsArithmetic op → Yields op t u → u ≡ t
own a (k.own_type b) = refl
own a (k.truth_of_two l) = absurd (not_both a l)
own a (k.truth_of_order c) = absurd (no_comparison a c)

of_truth : {op : BinaryOp} {t u : TypeNo} → (IsArithmetic op → ⊥) → Yields op t u → u ≡ boolean
of_truth n (k.own_type b) = absurd (n b)
of_truth n (k.truth_of_two l) = refl
of_truth n (k.truth_of_order c) = refl

gives_right : {op : BinaryOp} {a b l : Amount} → Gives op a b l → (s : Option TypeNo) × AreRight op a b s
gives_right (k.constant {sort = s} r x e i) = (s, r)
gives_right (k.decided {sort = s} r x) = (s, r)
gives_right (k.computed {t = t} r c y) = (Some t, r)

abbrev number_of : Amount → ℤ
number_of (Constant s n) = n
number_of (Value t) = pos 0

-- the result of two constants is out of range
abbrev Over_all : BinaryOp → Pos → Amount → Amount → Option TypeNo → Breach → Type 0
Over_all op spot a b sort f = (s : Option TypeNo) × (s' : Option TypeNo) × (x : ℤ) × (y : ℤ) × (z : ℤ)
    × (a ≡ Constant s x) × (b ≡ Constant s' y) × IsArithmetic op × Evaluates op x y z × (InRange sort z → ⊥)
    × (f ≡ spot ! rule.OutOfRange)

where_then : (g : Gathers) {A : Type 0} (b : Bool) (at : Pos) (n : Rule) (r : Result (Unit {0}) g.Reported)
    (h : Unit {0} → Result A g.Reported) → (reported_where g b at n r ▷ h) ≡ reported_where g b at n (r ▷ h)
where_then g true at n r h = refl
where_then g false at n r h = refl

module _ (g : Gathers) (j : Judges g) (lawful : Lawful g j) (O : Breach → Type 0) where
  abbrev Overflow : BinaryOp → Pos → Option TypeNo → ℤ → ℤ → Breach → Type 0
  Overflow op spot sort x y f = (z : ℤ) × IsArithmetic op × Evaluates op x y z × (InRange sort z → ⊥)
      × (f ≡ spot ! rule.OutOfRange)

  arithmetic_answers : {op : BinaryOp} (spot : Pos) {sort : Option TypeNo} {x y z : ℤ} → IsArithmetic op → IsNumber sort
      → Evaluates op x y z
      → Answers g j O IsAmount (Constantly op sort x y) (Overflow op spot sort x y) (number_at g spot sort z)
  arithmetic_answers {op = op} spot {sort = sort} {x = x} {y = y} {z = z} a n ev =
      exact g j lawful O {N = Constantly op sort x y} {C = Overflow op spot sort x y}
      (λ l m. subst (Constantly op sort x y) (sym m.1) (a_number a ev m.0)) (λ l m. of_number l m)
      (λ f b. elim b [ inl c ↦ (z, a, ev, c.0, c.1) | inr c ↦ absurd c.1 ])
      (λ f o. inl (subst (λ (w : ℤ). InRange sort w → ⊥) (evaluates_one ev o.2) o.3, o.4))
      (where_answers g j lawful O (fits sort z) spot rule.OutOfRange (range_decided z n)
      (λ r. fine g j lawful O (number_value sort z) (Constant sort z) (valued_is sort z)))
    where
      of_number : (l : Amount) → Constantly op sort x y l → InRange sort z × (l ≡ Constant sort z)
      of_number _ (a_number b e r) = let same = evaluates_one ev e in
          (subst (InRange sort) same r, ap (Constant sort) same)
      of_number _ (a_truth s) = absurd (says_nothing a s)

  truth_answers : {op : BinaryOp} (spot : Pos) {sort : Option TypeNo} {x y : ℤ} {b : Bool} → (IsArithmetic op → ⊥)
      → Says op x y b
      → Answers g j O IsAmount (Constantly op sort x y) (Overflow op spot sort x y)
      (Ok (number_value (Some boolean) (cond b (pos 1) (pos 0))))
  truth_answers {op = op} spot {sort = sort} {x = x} {y = y} {b = b} n says =
      exact g j lawful O {N = Constantly op sort x y} {C = Overflow op spot sort x y}
      (λ l m. subst (Constantly op sort x y) (sym m) (a_truth says)) (λ l m. of_truth_of l m) (λ f b. absurd b)
      (λ f o. absurd (n o.1))
      (fine g j lawful O (number_value (Some boolean) (cond b (pos 1) (pos 0))) (truth b)
      (valued_is (Some boolean) (cond b (pos 1) (pos 0))))
    where
      of_truth_of : (l : Amount) → Constantly op sort x y l → l ≡ truth b
      of_truth_of _ (a_number a e r) = absurd (n a)
      of_truth_of _ (a_truth s) = ap truth (says_one says s)

  applied_answers : (op : BinaryOp) (spot : Pos) (sort : Option TypeNo) (x y : ℤ) → Takes op sort
      → Answers g j O IsAmount (Constantly op sort x y) (Overflow op spot sort x y) (ordinal_result g op spot sort x y)
  applied_answers Plus spot sort x y t = arithmetic_answers spot k.plus (takes_number k.plus t) k.sum_is
  applied_answers Minus spot sort x y t = arithmetic_answers spot k.minus (takes_number k.minus t) k.difference_is
  applied_answers Times spot sort x y t = arithmetic_answers spot k.times (takes_number k.times t) k.product_is
  applied_answers Over spot sort x y t = absurd (takes_nothing (λ a. elim a [ ]) (λ a. elim a [ ]) (λ a. elim a [ ]) t)
  applied_answers Div spot sort x y t = arithmetic_answers spot k.div (takes_number k.div t) k.quotient_is
  applied_answers Mod spot sort x y t = arithmetic_answers spot k.modulo (takes_number k.modulo t) k.remainder_is
  applied_answers And spot sort x y t = truth_answers spot (λ a. elim a [ ]) k.both_hold
  applied_answers Or spot sort x y t = truth_answers spot (λ a. elim a [ ]) k.one_holds
  applied_answers (Relation r) spot sort x y t = truth_answers spot (λ a. elim a [ ]) k.compares

  -- ---- what is made of values

  abbrev Computes : BinaryOp → TypeNo → Amount → Type 0
  Computes op t l = (u : TypeNo) × Yields op t u × (l ≡ Value u)

  built_answers : {op : BinaryOp} {t : TypeNo} (u : TypeNo) (e : TypedExpr) → Yields op t u
      → ((w : TypeNo) → Yields op t w → w ≡ u)
      → Answers g j O IsScalar (Computes op t) (λ f. ⊥) (Ok (computed.Scalar u u e))
  built_answers {op = op} {t = t} u e y one =
      exact g j lawful O {N = Computes op t} (λ l m. (u, y, m)) (λ l m. m.2 ∙ ap Value (one m.0 m.1)) (λ f b. b)
      (λ f b. absurd b) (fine g j lawful O (computed.Scalar u u e) (Value u) (kind_scalar u u e))

  stepped_answers : (op : BinaryOp) (spot : Pos) (t : TypeNo) (p q : Sided) → Takes op (Some t)
      → Answers g j O IsScalar (Computes op t) (λ f. ⊥) (step_or_refusal g spot (Some t) p q (step_of op))
  stepped_answers Plus spot t p q h = built_answers t _ (k.own_type k.plus) (λ w. own k.plus)
  stepped_answers Minus spot t p q h = built_answers t _ (k.own_type k.minus) (λ w. own k.minus)
  stepped_answers Times spot t p q h = built_answers t _ (k.own_type k.times) (λ w. own k.times)
  stepped_answers Over spot t p q h = absurd (takes_nothing (λ a. elim a [ ]) (λ a. elim a [ ]) (λ a. elim a [ ]) h)
  stepped_answers Div spot t p q h = built_answers t _ (k.own_type k.div) (λ w. own k.div)
  stepped_answers Mod spot t p q h = built_answers t _ (k.own_type k.modulo) (λ w. own k.modulo)
  stepped_answers And spot t p q h = built_answers boolean _ (k.truth_of_two k.and) (λ w. of_truth (λ a. elim a [ ]))
  stepped_answers Or spot t p q h = built_answers boolean _ (k.truth_of_two k.or) (λ w. of_truth (λ a. elim a [ ]))
  stepped_answers (Relation rel.Equal) spot t p q h =
      built_answers boolean _ (k.truth_of_order k.equal) (λ w. of_truth (λ a. elim a [ ]))
  stepped_answers (Relation rel.Unequal) spot t p q h =
      built_answers boolean _ (k.truth_of_order k.unequal) (λ w. of_truth (λ a. elim a [ ]))
  stepped_answers (Relation rel.Less) spot t p q h =
      built_answers boolean _ (k.truth_of_order k.less) (λ w. of_truth (λ a. elim a [ ]))
  stepped_answers (Relation rel.AtMost) spot t p q h =
      built_answers boolean _ (k.truth_of_order k.at_most) (λ w. of_truth (λ a. elim a [ ]))
  stepped_answers (Relation rel.Greater) spot t p q h =
      built_answers boolean _ (k.truth_of_order k.greater) (λ w. of_truth (λ a. elim a [ ]))
  stepped_answers (Relation rel.AtLeast) spot t p q h =
      built_answers boolean _ (k.truth_of_order k.at_least) (λ w. of_truth (λ a. elim a [ ]))
  stepped_answers (Relation rel.In) spot t p q h =
      absurd (takes_nothing (λ a. elim a [ ]) (λ a. elim a [ ]) (λ a. elim a [ ]) h)

  -- ---- both together

  module _ (op : BinaryOp) (spot left right : Pos) where
    unfit_answers : {A : Type 0} {Is : A → Amount → Type 0} (a b : Amount)
        → ((s : Option TypeNo) → GoTogether (k.sort_of a) (k.sort_of b) s → ⊥)
        → Answers g j O Is (Gives op a b) (Wrongly op spot left right a b) (report g spot rule.WrongType)
    unfit_answers a b n = declined g j lawful O spot rule.WrongType (λ l m. right_not (gives_right m).1)
        (unfit (λ s h. n s h.together)) (λ f m. wrongly_so f m)
      where
        right_not : {s : Option TypeNo} → AreRight op a b s → ⊥
        right_not {s = s} h = n s h.fits.together

        wrongly_so : (f : Breach) → Wrongly op spot left right a b f → f ≡ spot ! rule.WrongType
        wrongly_so _ (unfit h) = refl
        wrongly_so _ (overreaches (rules.divisor {sort = s} h d e)) = absurd (n s h.together)
        wrongly_so _ (overreaches (rules.left_number {sort = s} h e)) = absurd (n s h.together)
        wrongly_so _ (overreaches (rules.right_number {sort = s} h e)) = absurd (n s h.together)
        wrongly_so _ (overreaches (rules.out_of_range p q r x e i)) = absurd (right_not r)

    -- if the operands go together, from the checks of both and what is made of them
    module _ (a b : Amount) (sort : Option TypeNo) (go : GoTogether (k.sort_of a) (k.sort_of b) sort)
        (only : (s : Option TypeNo) → GoTogether (k.sort_of a) (k.sort_of b) s → s ≡ sort) where
      misused_right : (f : Breach) → Wrongly op spot left right a b f → Wrong g j lawful O op spot left right a b sort f
          ⊎ (AreRight op a b sort × Over_all op spot a b sort f)
      misused_right _ (unfit h) = inl (inl ((λ t. h sort (record { together = go; takes = t })), refl))
      misused_right _ (overreaches (rules.divisor {sort = s} h d e)) =
          inl (inr (subst (Takes op) (only s h.together) h.takes, inl (d, e, refl)))
      misused_right _ (overreaches (rules.left_number {sort = s} h e)) =
          inl (inr (
            subst (Takes op) (only s h.together) h.takes,
            inr
                (inl (subst (λ (s : Option TypeNo). Suits s a → ⊥) (only s h.together) e, refl)),
          ))
      misused_right _ (overreaches (rules.right_number {sort = s} h e)) =
          inl (inr (
            subst (Takes op) (only s h.together) h.takes,
            inr
                (inr (subst (λ (s : Option TypeNo). Suits s b → ⊥) (only s h.together) e, refl)),
          ))
      misused_right _ (overreaches (rules.out_of_range {s = s} {s' = s'} {sort = t} {x = x} {y = y} {z = z} p q r i e
          n)) =
          let same = only t r.fits.together in
          inr (
            subst (AreRight op a b) same r,
            (s, s', x, y, z, p, q, i, e, subst (λ (s : Option TypeNo). InRange s z → ⊥) same n, refl),
          )

      right_misused : (f : Breach) → Wrong g j lawful O op spot left right a b sort f
          ⊎ (AreRight op a b sort × Over_all op spot a b sort f) → Wrongly op spot left right a b f
      right_misused f (inl w) = wrong_misused g j lawful O op spot left right a b sort go only f w
      right_misused f (inr (r, o)) = subst (Wrongly op spot left right a b) (sym o.10)
          (overreaches (rules.out_of_range o.5 o.6 r o.7 o.8 o.9))

  -- ---- constants

  gives_constant : {op : BinaryOp} {a b sort : Option TypeNo} {x y : ℤ} → (l : Amount)
      → AreRight op (Constant a x) (Constant b y) sort × Constantly op sort x y l
      → Gives op (Constant a x) (Constant b y) l
  gives_constant _ (r, a_number i e n) = k.constant r i e n
  gives_constant _ (r, a_truth s) = k.decided r s

  constant_gives : {op : BinaryOp} {a b sort : Option TypeNo} {x y : ℤ} (l : Amount)
      → Gives op (Constant a x) (Constant b y) l
      → ((s : Option TypeNo) → AreRight op (Constant a x) (Constant b y) s → s ≡ sort)
      → AreRight op (Constant a x) (Constant b y) sort × Constantly op sort x y l
  constant_gives {op = op} {a = a} {b = b} {sort = sort} {x = x} {y = y} _ (k.constant {sort = s} {z = z} r i e n)
      only = let same = only s r in (
        subst (AreRight op (Constant a x) (Constant b y)) same r,
        subst
            (λ (s : Option TypeNo). Constantly op sort x y (Constant s z)) (sym same)
            (a_number i e (subst (λ (s : Option TypeNo). InRange s z) same n)),
      )
  constant_gives {op = op} {a = a} {b = b} _ (k.decided {sort = s} {x = x} {y = y} r says) only =
      (subst (AreRight op (Constant a x) (Constant b y)) (only s r) r, a_truth says)
  constant_gives _ (k.computed r c y) only = elim c [ ]

  overflow_over : {op : BinaryOp} (spot : Pos) {a b sort : Option TypeNo} {x y : ℤ} (f : Breach)
      → Overflow op spot sort x y f → Over_all op spot (Constant a x) (Constant b y) sort f
  overflow_over spot {a = a} {b = b} {x = x} {y = y} f o = (a, b, x, y, o.0, refl, refl, o.1, o.2, o.3, o.4)

  over_overflow : {op : BinaryOp} (spot : Pos) {a b sort : Option TypeNo} {x y : ℤ} (f : Breach)
      → Over_all op spot (Constant a x) (Constant b y) sort f → Overflow op spot sort x y f
  over_overflow {op = op} spot {x = x} {y = y} f o = (
    o.4,
    o.7,
    subst (λ (n : ℤ). Evaluates op n y o.4) (ap number_of (sym o.5))
        (subst (λ (n : ℤ). Evaluates op o.2 n o.4) (ap number_of (sym o.6)) o.8),
    o.9,
    o.10,
  )

  pub value_answers : {M : Amount → Type 0} {B : Breach → Type 0} {v : Result ConstantValue g.Reported}
      → Answers g j O IsAmount M B v → Answers g j O IsScalar M B (of_value v)
  value_answers (means _ _ (of_literals n) m u b) =
      means (computed.Constant (value.Number n)) (Constant None n) (kind_constant (value.Number n)) m u b
  value_answers (means _ _ (of_scalar c) m u b) =
      means (computed.Constant (value.Scalar c)) (Constant (Some c.base) c.number) (kind_constant (value.Scalar c)) m u
      b
  value_answers (refuses r a n) = refuses r a n

  module _ (op : BinaryOp) (spot left right : Pos) where
    pub constants_by : (p q : Ordinal) (m : Option (Option TypeNo)) → TogetherIs p.sort q.sort m
        → Answers g j O IsAmount (Gives op (Constant p.sort p.number) (Constant q.sort q.number))
        (Wrongly op spot left right (Constant p.sort p.number) (Constant q.sort q.number))
        (on_scalars g op spot left p right q m)
    constants_by p q _ (apart n) = unfit_answers op spot left right (Constant p.sort p.number)
        (Constant q.sort q.number) n
    constants_by p q _ (together sort go only) = let a = Constant p.sort p.number in let b = Constant q.sort q.number in
        subst (Answers g j O IsAmount (Gives op a b) (Wrongly op spot left right a b))
        (where_then g (not (takes op sort)) spot rule.WrongType _ _)
        (exact g j lawful O {N = Gives op a b} {C = Wrongly op spot left right a b} gives_constant
        (λ l m. constant_gives l m (λ s r. only s r.fits.together))
        (λ f w. right_misused op spot left right a b sort go only f
        (elim w [ inl x ↦ inl x | inr x ↦ inr (x.0, overflow_over spot f x.1) ]))
        (λ f m. elim (misused_right op spot left right a b sort go only f m)
        [ inl x ↦ inl x | inr x ↦ inr (x.0, over_overflow spot f x.1) ])
        (then_checked g j lawful O (right_checks g j lawful O op spot left right (Known p) (Known q) sort go)
        (λ u r. applied_answers op spot sort p.number q.number r.fits.takes)))

    -- ---- values

    gives_computed : {a b l : Amount} {t : TypeNo} → IsComputed a b → Gives op a b l
        → ((s : Option TypeNo) → AreRight op a b s → s ≡ Some t) → AreRight op a b (Some t) × Computes op t l
    gives_computed c (k.constant r i e n) only = elim c [ ]
    gives_computed c (k.decided r s) only = elim c [ ]
    gives_computed {a = a} {b = b} c (k.computed {t = t} {u = u} r d y) only = let same = only (Some t) r in
        (subst (AreRight op a b) same r, (u, subst (λ (t : TypeNo). Yields op t u) (some_same _ _ same) y, refl))

    no_overflow : {a b : Option TypeNo} {p q : Amount} {x y : ℤ} → IsComputed p q → p ≡ Constant a x → q ≡ Constant b y
        → ⊥
    no_overflow k.left_computed e f = absurd cc
    no_overflow k.right_computed e f = absurd cc

    amounts_by : (p q : Sided) (t : TypeNo) → IsComputed (kind_of p) (kind_of q)
        → GoTogether (k.sort_of (kind_of p)) (k.sort_of (kind_of q)) (Some t)
        → ((s : Option TypeNo) → GoTogether (k.sort_of (kind_of p)) (k.sort_of (kind_of q)) s → s ≡ Some t)
        → Answers g j O IsScalar (Gives op (kind_of p) (kind_of q)) (Wrongly op spot left right (kind_of p) (kind_of q))
        (on_amounts g op spot left p right q (Some (Some t)))
    amounts_by p q t c go only = let a = kind_of p in let b = kind_of q in
        exact g j lawful O {N = Gives op a b} {C = Wrongly op spot left right a b}
        (λ l m. subst (Gives op a b) (sym m.1.2) (k.computed m.0 c m.1.1))
        (λ l m. gives_computed c m (λ s r. only s r.fits.together))
        (λ f w. right_misused op spot left right a b (Some t) go only f (elim w [ inl x ↦ inl x | inr x ↦ absurd x.1 ]))
        (λ f m. elim (misused_right op spot left right a b (Some t) go only f m)
        [ inl x ↦ inl x | inr x ↦ absurd (no_overflow c x.1.5 x.1.6) ])
        (then_checked g j lawful O (right_checks g j lawful O op spot left right p q (Some t) go)
        (λ u r. stepped_answers op spot t p q r.fits.takes))

    together_some : {a b s : Option TypeNo} → GoTogether a b s → (t : TypeNo) → (a ≡ Some t) ⊎ (b ≡ Some t)
        → (u : TypeNo) × (s ≡ Some u)
    together_some (k.same_type {t = u}) t e = (u, refl)
    together_some k.numbers t (inl e) = absurd cc
    together_some k.numbers t (inr e) = absurd cc
    together_some (k.number_left {t = u} w) t e = (u, refl)
    together_some (k.number_right {t = u} w) t e = (u, refl)

    computed_some : {a b : Amount} → IsComputed a b → (t : TypeNo) × ((k.sort_of a ≡ Some t) ⊎ (k.sort_of b ≡ Some t))
    computed_some (k.left_computed {t = t}) = (t, inl refl)
    computed_some (k.right_computed {t = t}) = (t, inr refl)

    pub amounts_answer : (p q : Sided) (m : Option (Option TypeNo)) → IsComputed (kind_of p) (kind_of q)
        → TogetherIs (k.sort_of (kind_of p)) (k.sort_of (kind_of q)) m
        → Answers g j O IsScalar (Gives op (kind_of p) (kind_of q)) (Wrongly op spot left right (kind_of p) (kind_of q))
        (on_amounts g op spot left p right q m)
    amounts_answer p q _ c (apart n) = unfit_answers op spot left right (kind_of p) (kind_of q) n
    amounts_answer p q _ c (together sort go only) = let t = computed_some c in let s = together_some go t.0 t.1 in
        subst (λ (sort : Option TypeNo). Answers g j O IsScalar (Gives op (kind_of p) (kind_of q))
        (Wrongly op spot left right (kind_of p) (kind_of q)) (on_amounts g op spot left p right q (Some sort)))
        (sym s.1)
        (amounts_by p q s.0 c (subst (GoTogether (k.sort_of (kind_of p)) (k.sort_of (kind_of q))) s.1 go)
        (λ r x. only r x ∙ s.1))
