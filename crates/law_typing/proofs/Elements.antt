-- Elements in braces are answered exactly.
use Rattle.std.proofs.Common.{◌≡◌, ℕ, ℤ, pos, Bool, true, false, cond, Option, Some, None, Result, Ok, ◌⊎◌, inl, inr, refl, sym, ap, subst, ◌∙◌}
use Rattle.std.specs.Prelude.{int_lt}
use Rattle.m2_rule.specs.declared.rule.Rule.TheVariants as rule
use Rattle.m2_tree.specs.declared.pos.Pos.{Pos}
use Rattle.typed_tree.specs.declared.types.TypeNo.{TypeNo}
use Rattle.typed_tree.specs.declared.meaning.Value.{Value as ConstantValue}
use Rattle.m2_rule.specs.declared.breach.Breach.{Breach}
use Rattle.check_scope.specs.Elaborated.{Gathers, reported_where, beside, ◌▷◌}
use Rattle.check_const.specs.declared.operand.Operand.{Operand as Side}
use Rattle.check_const.specs.declared.operand.Ordinal.{Ordinal}
use Rattle.check_const.specs.Operands.{is_number}
use Rattle.check_const.specs.Numbers.{is_between}
use Rattle.check_const.specs.Common.{common}
use Rattle.check_const.specs.Standards.{scalar_part, if_number}
use Rattle.check_const.specs.Sets.{ordinal_or_refusal, set_element, is_element, has_none, in_set, alike_in_order, related_bounds, span_of, with_span}
use Rattle.def_typing.specs.Amounts.{Constant, IsNumber, GoTogether, Within}
use Rattle.def_typing.specs.Operators.{◌!◌, Kind, Scalar, operand}
use Rattle.law_typing.specs.Exact.{IsConst, is_const}
use Rattle.law_typing.specs.Judging.{Judges, Answers, means, refuses}
use Rattle.law_typing.proofs.Combining.{Lawful, Decided, holds, fails_it, declined, fine, exact, both_answer, then_answer, Checks, Tests, passes, stops, stopped, where_checks, then_check, then_checked, beside_checks}
use Rattle.law_typing.proofs.Deciding.{number_decided, within_decided, TogetherIs, together, apart, common_is}
use Rattle.law_typing.proofs.Singles.{IsConstantOperand, constant_scalar, constant_set, constant_text, constant_is}

-- numbers as they are answered
pub data IsOrdinal : Ordinal → Option TypeNo × ℤ → Type 0 where
  is_ordinal : (a : Ordinal) → IsOrdinal a (a.sort, a.number)

pub data IsSame : ℕ → ℕ → Type 0 where
  is_same : (n : ℕ) → IsSame n n

abbrev amount_in : Option TypeNo × ℤ → Kind → Option TypeNo × ℤ
amount_in p (Scalar (Constant sort n)) = (sort, n)
amount_in p other = p

-- the number of a kind
abbrev pub NumberOf : Kind → Option TypeNo × ℤ → Type 0
NumberOf k p = (operand k ≡ Scalar (Constant p.0 p.1)) × IsNumber p.0

module _ (g : Gathers) (j : Judges g) (lawful : Lawful g j) (O : Breach → Type 0) where
  abbrev pub NoNumber : Pos → Kind → Breach → Type 0
  NoNumber at k f = ((p : Option TypeNo × ℤ) → NumberOf k p → ⊥) × (f ≡ at ! rule.WrongType)

  -- in a kind whose operand is known
  abbrev NumberIn : Kind → Option TypeNo × ℤ → Type 0
  NumberIn c p = (c ≡ Scalar (Constant p.0 p.1)) × IsNumber p.0

  numbers_by : (at : Pos) (a : Ordinal) (b : Bool) → Decided (IsNumber a.sort) b
      → Answers g j O IsOrdinal (NumberIn (Scalar (Constant a.sort a.number)))
      (λ f. ((p : Option TypeNo × ℤ) → NumberIn (Scalar (Constant a.sort a.number)) p → ⊥) × (f ≡ at ! rule.WrongType))
      (ordinal_or_refusal g at (cond b (Some a) None))
  numbers_by at a _ (holds n) = means a (a.sort, a.number) (is_ordinal a) (refl, n) (λ p m. sym (ap (amount_in p) m.0))
      (λ f z. z.0 (a.sort, a.number) (refl, n))
  numbers_by at a _ (fails_it n) = declined g j lawful O at rule.WrongType
      (λ p m. n (subst IsNumber (sym (ap (λ (k : Kind). (amount_in p k).0) m.0)) m.1))
      ((λ p m. n (subst IsNumber (sym (ap (λ (k : Kind). (amount_in p k).0) m.0)) m.1)), refl) (λ f z. z.1)

  numbers_known : (at : Pos) {p : Option Side} {c : Kind} → IsConstantOperand p c
      → Answers g j O IsOrdinal (NumberIn c)
      (λ f. ((q : Option TypeNo × ℤ) → NumberIn c q → ⊥) × (f ≡ at ! rule.WrongType))
      (ordinal_or_refusal g at (if_number (scalar_part p)))
  numbers_known at (constant_scalar a) = numbers_by at a (is_number a.sort) (number_decided a.sort)
  numbers_known at (constant_set bits) = declined g j lawful O at rule.WrongType (λ p m. let e = m.0 in absurd cc)
      ((λ p m. let e = m.0 in absurd cc), refl) (λ f z. z.1)
  numbers_known at (constant_text text) =
      declined g j lawful O at rule.WrongType (λ p m. let e = m.0 in absurd cc)
      ((λ p m. let e = m.0 in absurd cc), refl) (λ f z. z.1)

  pub number_answers : (at : Pos) (v : ConstantValue) (k : Kind) → IsConst v k
      → Answers g j O IsOrdinal (NumberOf k) (NoNumber at k) (set_element g at v)
  number_answers at _ _ (is_const v) = numbers_known at (constant_is v)

  -- one meaning at most
  pub one_meaning : {A K : Type 0} {Is : A → K → Type 0} {M : K → Type 0} {B : Breach → Type 0}
      {r : Result A g.Reported} → Answers g j O Is M B r → (k l : K) → M k → M l → k ≡ l
  one_meaning (means a m i h u n) k l p q = u k p ∙ sym (u l q)
  one_meaning (refuses r a n) k l p q = absurd (n k p)

  -- a condition beside an answer
  pub checks_answer : {A P : Type 0} {B : Breach → Type 0} {r : Result A g.Reported} → Checks g j lawful O P B r
      → Answers g j O {A = A} {K = Unit {0}} (λ a u. Unit {0}) (λ u. P) B r
  checks_answer (passes a p n) = means a tt tt p (λ u q. refl) n
  checks_answer (stops r a n) = refuses r a (λ u p. n p)

  -- ---- one element, and ranges

  abbrev InSet : Option TypeNo × ℤ → Type 0
  InSet p = Within (pos 0) p.1 (pos 31)

  abbrev NotInSet : Pos → Option TypeNo × ℤ → Breach → Type 0
  NotInSet at p f = (InSet p → ⊥) × (f ≡ at ! rule.OutOfRange)

  in_set_checks : (at : Pos) (a : Ordinal) (p : Option TypeNo × ℤ) → IsOrdinal a p
      → Checks g j lawful O (InSet p) (NotInSet at p) (is_element g at a)
  in_set_checks at _ _ (is_ordinal a) = where_checks g j lawful O tt (is_between (pos 0) a.number (pos 31)) at
      rule.OutOfRange (within_decided (pos 0) a.number (pos 31))

  -- what two bounds have to do with one another
  abbrev Ordered : (Option TypeNo × ℤ) × (Option TypeNo × ℤ) → Type 0
  Ordered q = ((u : Option TypeNo) × GoTogether q.0.0 q.1.0 u) × (int_lt q.1.1 q.0.1 ≡ true → ⊥)

  abbrev NotOrdered : Pos → Pos → (Option TypeNo × ℤ) × (Option TypeNo × ℤ) → Breach → Type 0
  NotOrdered at at' q f = (((u : Option TypeNo) → GoTogether q.0.0 q.1.0 u → ⊥) × (f ≡ at' ! rule.WrongType))
      ⊎ (((u : Option TypeNo) × GoTogether q.0.0 q.1.0 u) × ((int_lt q.1.1 q.0.1 ≡ true) × (f ≡ at ! rule.EmptyRange)))

  ordered_by : (at at' : Pos) (a b : Ordinal) (m : Option (Option TypeNo)) (less : Bool)
      → int_lt b.number a.number ≡ less → TogetherIs a.sort b.sort m
      → Tests g j lawful O (Ordered ((a.sort, a.number), (b.sort, b.number)))
      (NotOrdered at at' ((a.sort, a.number), (b.sort, b.number)))
      (reported_where g (has_none m) at' rule.WrongType (reported_where g less at rule.EmptyRange (Ok tt)))
  ordered_by at at' a b _ less e (apart n) =
      stopped g j lawful O at' rule.WrongType (λ p. n p.0.0 p.0.1) (inl (n, refl))
      (λ f z. elim z [ inl y ↦ y.1 | inr y ↦ absurd (n y.0.0 y.0.1) ])
  ordered_by at at' a b _ true e (together u t only) =
      stopped g j lawful O at rule.EmptyRange (λ p. p.1 e) (inr ((u, t), (e, refl)))
      (λ f z. elim z [ inl y ↦ absurd (y.0 u t) | inr y ↦ y.1.1 ])
  ordered_by at at' a b _ false e (together u t only) =
      passes tt ((u, t), (λ q. let clash : true ≡ false = sym q ∙ e in absurd cc))
      (λ f z. elim z [ inl y ↦ y.0 u t | inr y ↦ let clash : true ≡ false = sym y.1.0 ∙ e in absurd cc ])

  ordered_checks : (at at' : Pos) (a b : Ordinal) (p q : Option TypeNo × ℤ) → IsOrdinal a p → IsOrdinal b q
      → Checks g j lawful O (Ordered (p, q)) (NotOrdered at at' (p, q)) (alike_in_order g at at' a b)
  ordered_checks at at' _ _ _ _ (is_ordinal a) (is_ordinal b) =
      ordered_by at at' a b (common a.sort b.sort) (int_lt b.number a.number) refl (common_is a.sort b.sort)

  module _ {M N : Option TypeNo × ℤ → Type 0} {B C : Breach → Type 0} {a b : Result Ordinal g.Reported} (at at' : Pos)
      (low : Answers g j O IsOrdinal M B a) (high : Answers g j O IsOrdinal N C b) where
    -- the bits of one element
    abbrev pub OneElement : ℕ → Type 0
    OneElement bits = (p : Option TypeNo × ℤ) × M p × (InSet p × (bits ≡ with_span 0 p.1 p.1))

    abbrev pub OneFails : Breach → Type 0
    OneFails f = B f ⊎ ((p : Option TypeNo × ℤ) × M p × NotInSet at p f)

    -- the bits of a range
    abbrev pub RangeOf : ℕ → Type 0
    RangeOf bits = (q : (Option TypeNo × ℤ) × (Option TypeNo × ℤ)) × (M q.0 × N q.1)
        × ((InSet q.0 × InSet q.1) × (Ordered q × (bits ≡ with_span 0 q.0.1 q.1.1)))

    abbrev pub RangeFails : Breach → Type 0
    RangeFails f = (B f ⊎ C f) ⊎ ((((p : Option TypeNo × ℤ) × M p × NotInSet at p f)
        ⊎ ((p : Option TypeNo × ℤ) × N p × NotInSet at' p f))
        ⊎ ((q : (Option TypeNo × ℤ) × (Option TypeNo × ℤ)) × (M q.0 × N q.1) × NotOrdered at at' q f))

    pub one_answers : Answers g j O IsSame OneElement OneFails
        (a ▷ λ x. is_element g at x ▷ λ fine. Ok (with_span 0 x.number x.number))
    one_answers = exact g j lawful O {B = λ f. B f
        ⊎ ((p : Option TypeNo × ℤ) × M p × (NotInSet at p f ⊎ (InSet p × ⊥)))} (λ n m. m) (λ n m. m)
        (λ f z. elim z [ inl b ↦ inl b | inr y ↦ inr (y.0, y.1, elim y.2 [ inl w ↦ w | inr w ↦ absurd w.1 ]) ])
        (λ f z. elim z [ inl b ↦ inl b | inr y ↦ inr (y.0, y.1, inl y.2) ])
        (then_answer g j lawful O {N = λ p bits. InSet p × (bits ≡ with_span 0 p.1 p.1)}
        {D = λ p f. NotInSet at p f ⊎ (InSet p × ⊥)} low (λ x p i. one_bits x p i))
      where
        one_bits : (x : Ordinal) (p : Option TypeNo × ℤ) → IsOrdinal x p
            → Answers g j O IsSame (λ bits. InSet p × (bits ≡ with_span 0 p.1 p.1))
            (λ f. NotInSet at p f ⊎ (InSet p × ⊥)) (is_element g at x ▷ λ fine. Ok (with_span 0 x.number x.number))
        one_bits _ _ (is_ordinal x) = then_checked g j lawful O (in_set_checks at x (x.sort, x.number) (is_ordinal x))
            (λ u w. fine g j lawful O (with_span 0 x.number x.number) (with_span 0 x.number x.number)
            (is_same (with_span 0 x.number x.number)))

    -- what is checked of two bounds
    abbrev Bounded : Type 0
    Bounded = (((p : Option TypeNo × ℤ) × M p × InSet p) × ((p : Option TypeNo × ℤ) × N p × InSet p))
        × ((q : (Option TypeNo × ℤ) × (Option TypeNo × ℤ)) × (M q.0 × N q.1) × Ordered q)

    abbrev Unbounded : Breach → Type 0
    Unbounded f = ((B f ⊎ ((p : Option TypeNo × ℤ) × M p × NotInSet at p f))
        ⊎ (C f ⊎ ((p : Option TypeNo × ℤ) × N p × NotInSet at' p f)))
        ⊎ ((B f ⊎ C f) ⊎ ((q : (Option TypeNo × ℤ) × (Option TypeNo × ℤ)) × (M q.0 × N q.1) × NotOrdered at at' q f))

    bounds_check : Checks g j lawful O Bounded Unbounded
        (beside g (beside g (in_set g at a) (in_set g at' b)) (related_bounds g at at' a b))
    bounds_check = beside_checks g j lawful O
        (beside_checks g j lawful O (then_check g j lawful O {P = InSet} {D = NotInSet at} low (in_set_checks at))
        (then_check g j lawful O {P = InSet} {D = NotInSet at'} high (in_set_checks at')))
        (then_check g j lawful O {P = Ordered} {D = NotOrdered at at'} (both_answer g j lawful O low high)
        (λ x q i. ordered_checks at at' x.0 x.1 q.0 q.1 i.0 i.1))

    spans_by : (x : Ordinal × Ordinal) (q : (Option TypeNo × ℤ) × (Option TypeNo × ℤ)) → IsOrdinal x.0 q.0
        × IsOrdinal x.1 q.1 → with_span 0 x.0.number x.1.number ≡ with_span 0 q.0.1 q.1.1
    spans_by x q i = ap (λ (n : ℤ). with_span 0 n x.1.number) (number_is i.0)
        ∙ ap (λ (n : ℤ). with_span 0 q.0.1 n) (number_is i.1)
      where
        number_is : {a : Ordinal} {p : Option TypeNo × ℤ} → IsOrdinal a p → a.number ≡ p.1
        number_is (is_ordinal a) = refl

    abbrev Both : Type 0
    Both = ((Option TypeNo × ℤ) × (Option TypeNo × ℤ)) × Unit {0}

    pub range_answers : Answers g j O IsSame RangeOf RangeFails (span_of g at a at' b)
    range_answers = exact g j lawful O {M = λ bits. (k : Both) × ((M k.0.0 × N k.0.1) × Bounded)
        × (bits ≡ with_span 0 k.0.0.1 k.0.1.1)}
        {B = λ f. ((B f ⊎ C f) ⊎ Unbounded f) ⊎ ((k : Both) × ((M k.0.0 × N k.0.1) × Bounded) × ⊥)}
        (λ bits z. into bits z) (λ bits z. out bits z) (λ f z. fails_in f z) (λ f z. fails_out f z)
        (then_answer g j lawful O {N = λ k bits. bits ≡ with_span 0 k.0.0.1 k.0.1.1} {D = λ k f. ⊥}
        (both_answer g j lawful O (both_answer g j lawful O low high) (checks_answer bounds_check))
        (λ x k i. subst (λ (n : ℕ). Answers g j O IsSame (λ bits. bits ≡ n) (λ f. ⊥)
        (Ok (with_span 0 x.0.0.number x.0.1.number))) (spans_by x.0 k.0 i.0)
        (fine g j lawful O (with_span 0 x.0.0.number x.0.1.number) (with_span 0 x.0.0.number x.0.1.number)
        (is_same (with_span 0 x.0.0.number x.0.1.number)))))
      where
        into : (bits : ℕ) → (k : Both) × ((M k.0.0 × N k.0.1) × Bounded) × (bits ≡ with_span 0 k.0.0.1 k.0.1.1)
            → RangeOf bits
        into bits (k, ((m, n), (((p, mp, ip), (q, nq, iq)), (r, (mr, nr), o))), e) = (
          k.0,
          (m, n),
          (
            (
              subst InSet (one_meaning low p k.0.0 mp m) ip,
              subst InSet (one_meaning high q k.0.1 nq n)
                  iq,
            ),
            (
              subst (λ (x : Option TypeNo × ℤ). Ordered (k.0.0, x)) (one_meaning high r.1 k.0.1 nr n)
                  (subst (λ (x : Option TypeNo × ℤ). Ordered (x, r.1)) (one_meaning low r.0 k.0.0 mr m) o),
              e,
            ),
          ),
        )

        out : (bits : ℕ) → RangeOf bits → (k : Both) × ((M k.0.0 × N k.0.1) × Bounded)
            × (bits ≡ with_span 0 k.0.0.1 k.0.1.1)
        out bits (q, (m, n), ((i, k), (o, e))) = ((q, tt), ((m, n), (((q.0, m, i), (q.1, n, k)), (q, (m, n), o))), e)

        unbounded : (f : Breach) → Unbounded f → RangeFails f
        unbounded f (inl (inl (inl b))) = inl (inl b)
        unbounded f (inl (inl (inr y))) = inr (inl (inl y))
        unbounded f (inl (inr (inl c))) = inl (inr c)
        unbounded f (inl (inr (inr y))) = inr (inl (inr y))
        unbounded f (inr (inl b)) = inl b
        unbounded f (inr (inr y)) = inr (inr y)

        fails_in : (f : Breach) → ((B f ⊎ C f) ⊎ Unbounded f) ⊎ ((k : Both) × ((M k.0.0 × N k.0.1) × Bounded) × ⊥)
            → RangeFails f
        fails_in f (inl (inl b)) = inl b
        fails_in f (inl (inr u)) = unbounded f u
        fails_in f (inr y) = absurd y.2

        fails_out : (f : Breach) → RangeFails f → ((B f ⊎ C f) ⊎ Unbounded f)
            ⊎ ((k : Both) × ((M k.0.0 × N k.0.1) × Bounded) × ⊥)
        fails_out f (inl b) = inl (inl b)
        fails_out f (inr (inl (inl y))) = inl (inr (inl (inl (inr y))))
        fails_out f (inr (inl (inr y))) = inl (inr (inl (inr (inr y))))
        fails_out f (inr (inr y)) = inl (inr (inr (inr y)))
