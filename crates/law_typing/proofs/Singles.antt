-- What takes one operand answers exactly: signs, NOT, and functions of one value.
use Rattle.std.proofs.Common.{◌≡◌, ℕ, ℤ, pos, Bool, true, false, not, cond, List, [], ◌∷◌, Option, Some, None, Result, Ok, refl, sym, ap, subst, ◌∙◌}
use Rattle.std.specs.Prelude.{◌-ℤ◌, int_lt}
use Rattle.std.specs.Int.{int_rem_euclid}
use Rattle.m2_rule.specs.declared.rule.Rule.{Rule}
use Rattle.m2_rule.specs.declared.rule.Rule.TheVariants as rule
use Rattle.m2_tree.specs.declared.pos.Pos.{Pos}
use Rattle.m2_tree.specs.declared.expr.Sign.{Sign}
use Rattle.m2_tree.specs.declared.expr.Sign.TheVariants as sign
use Rattle.typed_tree.specs.declared.types.TypeNo.{TypeNo}
use Rattle.typed_tree.specs.declared.computed.TypedExpr.{TypedExpr}
use Rattle.typed_tree.specs.declared.meaning.Standard.{Standard}
use Rattle.typed_tree.specs.declared.meaning.Standard.TheVariants.{Abs, Cap, Chr, Odd, Ord}
use Rattle.typed_tree.specs.declared.meaning.Value.{Value as ConstantValue}
use Rattle.typed_tree.specs.declared.meaning.Value.TheVariants as value
use Rattle.typed_tree.specs.declared.shape.Scalar.{Scalar as Range}
use Rattle.typed_tree.specs.Types.{are_same, is_numeric, integer, cardinal, boolean, char}
use Rattle.m2_rule.specs.declared.breach.Breach.{Breach}
use Rattle.check_scope.specs.Elaborated.{Gathers, report, reported_where}
use Rattle.check_const.specs.declared.operand.Ordinal.{Ordinal}
use Rattle.check_const.specs.declared.operand.Operand.{Operand}
use Rattle.check_const.specs.declared.operand.Operand.TheVariants as operands
use Rattle.check_const.specs.declared.operator.BinaryOp.TheVariants.{Minus}
use Rattle.check_const.specs.Operands.{operand_of, number_value, is_number, is_truth, truth as constant_truth}
use Rattle.check_const.specs.Numbers.{fits, is_between, number_at, evaluated_at}
use Rattle.check_const.specs.Operate as constants
use Rattle.check_const.specs.Standards.{scalar_part, if_number, absolute_part, capital_part, character_part, odd_part, ordinal_part, converted_part, is_char, upper, bound_of}
use Rattle.check_value.specs.declared.computed.Computed.{Computed}
use Rattle.check_value.specs.declared.computed.Computed.TheVariants as computed
use Rattle.check_value.specs.Operations.{of_value}
use Rattle.check_value.specs.Signs as signs
use Rattle.check_value.specs.declared.standard.Unary.{Unary}
use Rattle.check_value.specs.declared.standard.Unary.TheVariants as unary
use Rattle.check_value.specs.Functions.{unary_at, unary_scalar, converted_value}
use Rattle.def_typing.specs.Amounts as k
use Rattle.def_typing.specs.Amounts.{Amount, Constant, Value, sort_of, IsNumber, InRange, Within, TakesSign, Signs, truth}
use Rattle.def_typing.specs.Operators as rules
use Rattle.def_typing.specs.Operators.{◌!◌, Kind, Scalar, Set, Text, Routine, Procedure, Whole, Untaken, operand, Misapplied, unsuited, makes_nothing, MaySign, SignMakes, Negates}
use Rattle.def_typing.specs.Functions as functions
use Rattle.def_typing.specs.Functions.{TakesOne, AbsoluteOf, Computes, MayApply, Applies, MayConvert, Converts}
use Rattle.law_typing.specs.Judging.{Judges, Answers, means}
use Rattle.law_typing.specs.Exact.{kind_of, IsKind, kind_constant, kind_scalar, kind_set, kind_routine, kind_procedure, kind_whole, kind_untaken}
use Rattle.law_typing.proofs.Combining.{Lawful, Decided, holds, fails_it, decided_as, declined}
use Rattle.law_typing.proofs.Deciding.{same_decided, number_decided, truth_decided, range_decided, within_decided, some_same}

-- ---- constants as operands

pub data IsConstantOperand : Option Operand → Kind → Type 0 where
  constant_scalar : (a : Ordinal) → IsConstantOperand (Some (operands.Scalar a)) (Scalar (Constant a.sort a.number))
  constant_set : (bits : ℕ) → IsConstantOperand (Some (operands.Set bits)) (Set (Some bits))
  constant_text : (text : List ℕ) → IsConstantOperand None (Text text)

text_constant : (text : List ℕ) → IsConstantOperand (operand_of (value.Text text)) (operand (Text text))
text_constant [] = constant_text []
text_constant (c ∷ []) = constant_scalar (record { sort = Some (record { home = _; number = _ }); number = pos c })
text_constant (c ∷ d ∷ text) = constant_text (c ∷ d ∷ text)

pub constant_is : (v : ConstantValue) → IsConstantOperand (operand_of v) (operand (kind_of v))
constant_is (value.Number n) = constant_scalar (record { sort = None; number = n })
constant_is (value.Scalar s) = constant_scalar (record { sort = Some s.base; number = s.number })
constant_is (value.Set bits) = constant_set bits
constant_is (value.Text text) = text_constant text

pub valued_kind : (sort : Option TypeNo) (n : ℤ)
    → IsKind (computed.Constant (number_value sort n)) (Scalar (Constant sort n))
valued_kind None n = kind_constant (value.Number n)
valued_kind (Some t) n = kind_constant (number_value (Some t) n)

pub of_where : (g : Gathers) (b : Bool) (at : Pos) (broken : Rule) (r : Result ConstantValue g.Reported)
    → reported_where g b at broken (of_value r) ≡ of_value (reported_where g b at broken r)
of_where g true at broken r = refl
of_where g false at broken r = refl

-- ---- an operand that suits, and what is made of it

module _ (g : Gathers) (j : Judges g) (lawful : Lawful g j) (O : Breach → Type 0) (at : Pos) (broken : Rule) where
  module _ (May : Type 0) (M : Kind → Type 0) where
    abbrev pub Applied : Result Computed g.Reported → Type 0
    Applied r = Answers g j O IsKind M (Misapplied May M at broken) r

    pub makes : May → (v : Computed) (c : Kind) → IsKind v c → M c → ((l : Kind) → M l → l ≡ c) → Applied (Ok v)
    makes t v c i m only = means v c i m only (λ f x. none x)
      where
        none : {f : Breach} → Misapplied May M at broken f → ⊥
        none (unsuited n) = n t
        none (makes_nothing s n) = n c m

    pub suits_not : (May → ⊥) → ((l : Kind) → M l → May) → Applied (report g at broken)
    suits_not n may = declined g j lawful O at broken (λ l m. n (may l m)) (unsuited n) (λ f x. one x)
      where
        one : {f : Breach} → Misapplied May M at broken f → f ≡ at ! broken
        one (unsuited m) = refl
        one (makes_nothing t m) = absurd (n t)

    pub reaches_out : May → ((l : Kind) → M l → ⊥) → Applied (report g at rule.OutOfRange)
    reaches_out t n = declined g j lawful O at rule.OutOfRange n (makes_nothing t n) (λ f x. one x)
      where
        one : {f : Breach} → Misapplied May M at broken f → f ≡ at ! rule.OutOfRange
        one (unsuited m) = absurd (m t)
        one (makes_nothing s m) = refl

    pub where_made : {P : Type 0} (b : Bool) → Decided P b → May → (v : Computed) (c : Kind) → IsKind v c → (P → M c)
        → ((l : Kind) → M l → P × (l ≡ c)) → Applied (reported_where g (not b) at rule.OutOfRange (Ok v))
    where_made _ (holds p) t v c i m only = makes t v c i (m p) (λ l x. (only l x).1)
    where_made _ (fails_it n) t v c i m only = reaches_out t (λ l x. n (only l x).0)

    pub where_suits : {r : Result Computed g.Reported} (b : Bool) → Decided May b → ((l : Kind) → M l → May)
        → (May → Applied r) → Applied (reported_where g (not b) at broken r)
    where_suits _ (holds t) may h = h t
    where_suits _ (fails_it n) may h = suits_not n may

    -- a constant of this value, if it is in the range of its type
    pub number_made : (sort : Option TypeNo) (n : ℤ) → IsNumber sort → May
        → (InRange sort n → M (Scalar (Constant sort n)))
        → ((l : Kind) → M l → InRange sort n × (l ≡ Scalar (Constant sort n)))
        → Applied (of_value (number_at g at sort n))
    number_made sort n w t m only = subst Applied
        (of_where g (not (fits sort n)) at rule.OutOfRange (Ok (number_value sort n)))
        (where_made (fits sort n) (range_decided n w) t _ (Scalar (Constant sort n)) (valued_kind sort n) m only)

-- ---- signs

of_plus : {sort : Option TypeNo} → TakesSign sign.Plus sort → IsNumber sort
of_plus (k.plus_takes n) = n

minus_number : {sort : Option TypeNo} → TakesSign sign.Minus sort → IsNumber sort
minus_number k.minus_number = k.number
minus_number k.minus_integer = k.whole k.is_integer

of_minus : {t : TypeNo} → TakesSign sign.Minus (Some t) → t ≡ integer
of_minus k.minus_integer = refl

plus_decided : (sort : Option TypeNo) → Decided (TakesSign sign.Plus sort) (is_number sort)
plus_decided sort = decided_as k.plus_takes of_plus (number_decided sort)

minus_decided : (sort : Option TypeNo) → Decided (TakesSign sign.Minus sort) (constants.is_signed sort)
minus_decided None = holds k.minus_number
minus_decided (Some t) = decided_as (λ e. subst (λ (t : TypeNo). TakesSign sign.Minus (Some t)) (sym e) k.minus_integer)
    of_minus (same_decided t integer)

sign_taken : {o : Sign} {c l : Kind} → SignMakes o c l → MaySign o c
sign_taken (rules.signed t s) = t

plus_makes : {a : Amount} {l : Kind} → SignMakes sign.Plus (Scalar a) l → l ≡ Scalar a
plus_makes (rules.signed t k.plus_is) = refl

minus_makes_value : {t : TypeNo} {l : Kind} → SignMakes sign.Minus (Scalar (Value t)) l → l ≡ Scalar (Value t)
minus_makes_value (rules.signed t k.minus_value) = refl

minus_makes : {sort : Option TypeNo} {n : ℤ} {l : Kind} → SignMakes sign.Minus (Scalar (Constant sort n)) l
    → InRange sort (pos 0 -ℤ n) × (l ≡ Scalar (Constant sort (pos 0 -ℤ n)))
minus_makes (rules.signed t (k.minus_constant r)) = (r, refl)

module _ (g : Gathers) (j : Judges g) (lawful : Lawful g j) (O : Breach → Type 0) where
  abbrev pub Signed : Sign → Pos → Kind → Result Computed g.Reported → Type 0
  Signed o spot c r = Applied g j lawful O spot rule.WrongType (MaySign o c) (SignMakes o c) r

  no_sign : {o : Sign} {c : Kind} (spot : Pos) → (MaySign o c → ⊥) → Signed o spot c (report g spot rule.WrongType)
  no_sign {o = o} {c = c} spot n = suits_not g j lawful O spot rule.WrongType (MaySign o c) (SignMakes o c) n
      (λ l m. sign_taken m)

  sign_constant : (o : Sign) (spot : Pos) (sort : Option TypeNo) (n : ℤ)
      → Signed o spot (Scalar (Constant sort n))
      (of_value (constants.signed_scalar g o spot (record { sort = sort; number = n })))
  sign_constant sign.Plus spot sort n = let c = Scalar (Constant sort n) in
      subst (Signed sign.Plus spot c) (of_where g (not (is_number sort)) spot rule.WrongType (Ok (number_value sort n)))
      (where_suits g j lawful O spot rule.WrongType (MaySign sign.Plus c) (SignMakes sign.Plus c) (is_number sort)
      (plus_decided sort) (λ l m. sign_taken m)
      (λ t. makes g j lawful O spot rule.WrongType (MaySign sign.Plus c) (SignMakes sign.Plus c) t _ c
      (valued_kind sort n) (rules.signed t k.plus_is) (λ l m. plus_makes m)))
  sign_constant sign.Minus spot sort n = let c = Scalar (Constant sort n) in
      subst (Signed sign.Minus spot c) (of_where g (not (constants.is_signed sort)) spot rule.WrongType
      (evaluated_at g spot sort Minus (pos 0) n))
      (where_suits g j lawful O spot rule.WrongType (MaySign sign.Minus c) (SignMakes sign.Minus c)
      (constants.is_signed sort) (minus_decided sort) (λ l m. sign_taken m)
      (λ t. number_made g j lawful O spot rule.WrongType (MaySign sign.Minus c) (SignMakes sign.Minus c) sort
      (pos 0 -ℤ n) (minus_number t) t (λ r. rules.signed t (k.minus_constant r)) (λ l m. minus_makes m)))

  sign_value : (o : Sign) (spot : Pos) (t b : TypeNo) (e : TypedExpr)
      → Signed o spot (Scalar (Value b)) (signs.signed_scalar g o spot b e)
  sign_value sign.Plus spot t b e = let c = Scalar (Value b) in
      where_suits g j lawful O spot rule.WrongType (MaySign sign.Plus c) (SignMakes sign.Plus c) (is_numeric b)
      (plus_decided (Some b)) (λ l m. sign_taken m)
      (λ t. makes g j lawful O spot rule.WrongType (MaySign sign.Plus c) (SignMakes sign.Plus c) t _ c
      (kind_scalar b b _) (rules.signed t k.plus_is) (λ l m. plus_makes m))
  sign_value sign.Minus spot t b e = let c = Scalar (Value b) in
      where_suits g j lawful O spot rule.WrongType (MaySign sign.Minus c) (SignMakes sign.Minus c) (are_same b integer)
      (minus_decided (Some b)) (λ l m. sign_taken m)
      (λ t. makes g j lawful O spot rule.WrongType (MaySign sign.Minus c) (SignMakes sign.Minus c) t _ c
      (kind_scalar b b _) (rules.signed t k.minus_value) (λ l m. minus_makes_value m))

  sign_known : (o : Sign) (spot : Pos) {p : Option Operand} {c : Kind} → IsConstantOperand p c
      → Signed o spot c (of_value (constants.signed_value g o spot p))
  sign_known o spot (constant_scalar a) = sign_constant o spot a.sort a.number
  sign_known o spot (constant_set bits) = no_sign spot (λ m. m)
  sign_known o spot (constant_text text) = no_sign spot (λ m. m)

  pub signed_answers : (o : Sign) (spot : Pos) {x : Computed} {c : Kind} → IsKind x c
      → Signed o spot (operand c) (signs.signed_value g o spot x)
  signed_answers o spot (kind_constant v) = sign_known o spot (constant_is v)
  signed_answers o spot (kind_scalar t b e) = sign_value o spot t b e
  signed_answers o spot (kind_set e) = no_sign spot (λ m. m)
  signed_answers o spot (kind_routine t e) = no_sign spot (λ m. m)
  signed_answers o spot (kind_procedure p) = no_sign spot (λ m. m)
  signed_answers o spot (kind_whole t d) = no_sign spot (λ m. m)
  signed_answers o spot kind_untaken = no_sign spot (λ m. m)

-- ---- NOT

negates_scalar : {sort : Option TypeNo} {n : ℤ} {l : Kind} → Negates (Scalar (Constant sort n)) l
    → (sort ≡ Some boolean) × (l ≡ Scalar (truth (not (int_lt (pos 0) n))))
negates_scalar rules.not_constant = (refl, refl)

negates_value : {t : TypeNo} {l : Kind} → Negates (Scalar (Value t)) l → (t ≡ boolean) × (l ≡ Scalar (Value boolean))
negates_value rules.not_value = (refl, refl)

module _ (g : Gathers) (j : Judges g) (lawful : Lawful g j) (O : Breach → Type 0) (at : Pos) where
  abbrev pub Negated : Kind → Result Computed g.Reported → Type 0
  Negated c r = Answers g j O IsKind (Negates c) (λ f. ((l : Kind) → Negates c l → ⊥) × (f ≡ at ! rule.WrongType)) r

  not_negated : {c : Kind} → ((l : Kind) → Negates c l → ⊥) → Negated c (report g at rule.WrongType)
  not_negated n = declined g j lawful O at rule.WrongType n (n, refl) (λ f x. x.1)

  negated_by : {P : Type 0} {c m : Kind} {v : Computed} (b : Bool) → Decided P b → IsKind v m → (P → Negates c m)
      → ((l : Kind) → Negates c l → P × (l ≡ m)) → Negated c (reported_where g (not b) at rule.WrongType (Ok v))
  negated_by {m = m} {v = v} _ (holds p) i made only =
      means v m i (made p) (λ l x. (only l x).1) (λ f x. x.0 m (made p))
  negated_by _ (fails_it n) i made only = not_negated (λ l x. n (only l x).0)

  negated_constant : (sort : Option TypeNo) (n : ℤ)
      → Negated (Scalar (Constant sort n)) (of_value
      (constants.negated_value g at (Some (operands.Scalar (record { sort = sort; number = n })))))
  negated_constant sort n = let c = Scalar (Constant sort n) in
      subst (Negated c) (of_where g (not (is_truth sort)) at rule.WrongType
      (Ok (constant_truth (not (int_lt (pos 0) n)))))
      (negated_by (is_truth sort) (truth_decided sort) (kind_constant (constant_truth (not (int_lt (pos 0) n))))
      (λ e. subst (λ (s : Option TypeNo). Negates (Scalar (Constant s n)) (Scalar (truth (not (int_lt (pos 0) n)))))
      (sym e) rules.not_constant) (λ l m. negates_scalar m))

  negated_text : (text : List ℕ) → Negated (Text text)
      (of_value (constants.negated_value g at (operand_of (value.Text text))))
  negated_text [] = not_negated (λ l m. elim m [ ])
  negated_text (c ∷ []) = not_negated (λ l m. elim m [ ])
  negated_text (c ∷ d ∷ text) = not_negated (λ l m. elim m [ ])

  pub negated_answers : {x : Computed} {c : Kind} → IsKind x c → Negated c (signs.negated_value g at x)
  negated_answers (kind_constant (value.Number n)) = negated_constant None n
  negated_answers (kind_constant (value.Scalar s)) = negated_constant (Some s.base) s.number
  negated_answers (kind_constant (value.Set bits)) = not_negated (λ l m. elim m [ ])
  negated_answers (kind_constant (value.Text text)) = negated_text text
  negated_answers (kind_scalar t b e) = negated_by (are_same b boolean) (same_decided b boolean)
      (kind_scalar boolean boolean _) (λ e. subst (λ (t : TypeNo). Negates (Scalar (Value t)) (Scalar (Value boolean)))
      (sym e) rules.not_value) (λ l m. negates_value m)
  negated_answers (kind_set e) = not_negated (λ l m. elim m [ ])
  negated_answers (kind_routine t e) = not_negated (λ l m. elim m [ ])
  negated_answers (kind_procedure p) = not_negated (λ l m. elim m [ ])
  negated_answers (kind_whole t d) = not_negated (λ l m. elim m [ ])
  negated_answers kind_untaken = not_negated (λ l m. elim m [ ])

-- ---- functions of one value

pub data UnaryIs : Standard → Unary → Type 0 where
  is_abs : UnaryIs Abs unary.Abs
  is_cap : UnaryIs Cap unary.Cap
  is_chr : UnaryIs Chr unary.Chr
  is_odd : UnaryIs Odd unary.Odd
  is_ord : UnaryIs Ord unary.Ord

applied_takes : {f : Standard} {c l : Kind} → Applies f c l → MayApply f c
applied_takes (functions.applied t m) = t

abs_number : {sort : Option TypeNo} → TakesOne Abs sort → IsNumber sort
abs_number (functions.abs_takes n) = n

cap_char : {sort : Option TypeNo} → TakesOne Cap sort → sort ≡ Some char
cap_char functions.cap_takes = refl

chr_number : {sort : Option TypeNo} → TakesOne Chr sort → IsNumber sort
chr_number (functions.chr_takes n) = n

odd_number : {sort : Option TypeNo} → TakesOne Odd sort → IsNumber sort
odd_number (functions.odd_takes n) = n

char_takes : {sort : Option TypeNo} → sort ≡ Some char → TakesOne Cap sort
char_takes e = subst (TakesOne Cap) (sym e) functions.cap_takes

char_decided : (sort : Option TypeNo) → Decided (TakesOne Cap sort) (is_char sort)
char_decided None = fails_it (λ t. elim t [ ])
char_decided (Some t) = decided_as (λ e. char_takes (ap Some e)) (λ x. some_same t char (cap_char x))
    (same_decided t char)

absolute_one : {n m z : ℤ} → AbsoluteOf n m → AbsoluteOf n z → z ≡ m
absolute_one (functions.turned e) (functions.turned q) = refl
absolute_one (functions.itself e) (functions.itself q) = refl
absolute_one (functions.turned e) (functions.itself q) = let clash : true ≡ false = sym e ∙ q in absurd cc
absolute_one (functions.itself e) (functions.turned q) = let clash : true ≡ false = sym q ∙ e in absurd cc

abs_makes : {sort : Option TypeNo} {n m : ℤ} {l : Kind} → AbsoluteOf n m → Applies Abs (Scalar (Constant sort n)) l
    → InRange sort m × (l ≡ Scalar (Constant sort m))
abs_makes {sort = sort} a (functions.applied t (functions.abs_constant b r)) = let e = absolute_one a b in
    (subst (InRange sort) e r, ap (λ (z : ℤ). Scalar (Constant sort z)) e)

abs_makes_value : {t : TypeNo} {l : Kind} → Applies Abs (Scalar (Value t)) l → l ≡ Scalar (Value t)
abs_makes_value (functions.applied t functions.abs_value) = refl

cap_makes : {sort : Option TypeNo} {n : ℤ} {l : Kind} → Applies Cap (Scalar (Constant sort n)) l
    → l ≡ Scalar (Constant (Some char) (upper n))
cap_makes (functions.applied t functions.cap_constant) = refl

cap_makes_value : {t : TypeNo} {l : Kind} → Applies Cap (Scalar (Value t)) l → l ≡ Scalar (Value char)
cap_makes_value (functions.applied t functions.cap_value) = refl

chr_makes : {sort : Option TypeNo} {n : ℤ} {l : Kind} → Applies Chr (Scalar (Constant sort n)) l
    → Within (pos 0) n (pos 255) × (l ≡ Scalar (Constant (Some char) n))
chr_makes (functions.applied t (functions.chr_constant w)) = (w, refl)

chr_makes_value : {t : TypeNo} {l : Kind} → Applies Chr (Scalar (Value t)) l → l ≡ Scalar (Value char)
chr_makes_value (functions.applied t functions.chr_value) = refl

odd_makes : {sort : Option TypeNo} {n : ℤ} {l : Kind} → Applies Odd (Scalar (Constant sort n)) l
    → l ≡ Scalar (truth (int_lt (pos 0) (int_rem_euclid n (pos 2))))
odd_makes (functions.applied t functions.odd_constant) = refl

odd_makes_value : {t : TypeNo} {l : Kind} → Applies Odd (Scalar (Value t)) l → l ≡ Scalar (Value boolean)
odd_makes_value (functions.applied t functions.odd_value) = refl

ord_makes : {sort : Option TypeNo} {n : ℤ} {l : Kind} → Applies Ord (Scalar (Constant sort n)) l
    → InRange (Some cardinal) n × (l ≡ Scalar (Constant (Some cardinal) n))
ord_makes (functions.applied t (functions.ord_constant r)) = (r, refl)

ord_makes_value : {t : TypeNo} {l : Kind} → Applies Ord (Scalar (Value t)) l → l ≡ Scalar (Value cardinal)
ord_makes_value (functions.applied t functions.ord_value) = refl

module _ (g : Gathers) (j : Judges g) (lawful : Lawful g j) (O : Breach → Type 0) (at : Pos) where
  module _ (f : Standard) where
    abbrev pub OfOne : Kind → Result Computed g.Reported → Type 0
    OfOne c r = Applied g j lawful O at rule.WrongArgument (MayApply f c) (Applies f c) r

    no_argument : {c : Kind} → (MayApply f c → ⊥) → OfOne c (report g at rule.WrongArgument)
    no_argument {c = c} n = suits_not g j lawful O at rule.WrongArgument (MayApply f c) (Applies f c) n
        (λ l m. applied_takes m)

    one_makes : {a b : Amount} {v : Computed} → TakesOne f (sort_of a) → IsKind v (Scalar b) → Computes f a b
        → ((l : Kind) → Applies f (Scalar a) l → l ≡ Scalar b) → OfOne (Scalar a) (Ok v)
    one_makes {a = a} {b = b} {v = v} t i m only =
        makes g j lawful O at rule.WrongArgument (MayApply f (Scalar a)) (Applies f (Scalar a)) t v (Scalar b) i
        (functions.applied t m) only

    where_one : {a : Amount} {r : Result Computed g.Reported} (b : Bool) → Decided (TakesOne f (sort_of a)) b
        → (TakesOne f (sort_of a) → OfOne (Scalar a) r)
        → OfOne (Scalar a) (reported_where g (not b) at rule.WrongArgument r)
    where_one {a = a} b d h = where_suits g j lawful O at rule.WrongArgument (MayApply f (Scalar a))
        (Applies f (Scalar a)) b d (λ l m. applied_takes m) h

    -- the test on numbers stands inside what it guards
    if_taken : (part : Option Ordinal → Result ConstantValue g.Reported) (a : Ordinal) (b : Bool)
        → Decided (TakesOne f a.sort) b → of_value (part None) ≡ report g at rule.WrongArgument
        → (TakesOne f a.sort → OfOne (Scalar (Constant a.sort a.number)) (of_value (part (Some a))))
        → OfOne (Scalar (Constant a.sort a.number)) (of_value (part (cond b (Some a) None)))
    if_taken part a _ (holds t) e h = h t
    if_taken part a _ (fails_it n) e h = subst (OfOne (Scalar (Constant a.sort a.number))) (sym e) (no_argument n)

  absolute_by : (a : Ordinal) (b : Bool) → int_lt a.number (pos 0) ≡ b → TakesOne Abs a.sort
      → OfOne Abs (Scalar (Constant a.sort a.number))
      (of_value (cond b (evaluated_at g at a.sort Minus (pos 0) a.number) (number_at g at a.sort a.number)))
  absolute_by a true e t = let c = Scalar (Constant a.sort a.number) in
      number_made g j lawful O at rule.WrongArgument (MayApply Abs c) (Applies Abs c) a.sort (pos 0 -ℤ a.number)
      (abs_number t) t
      (λ r. functions.applied t (functions.abs_constant (functions.turned e) r))
      (λ l m. abs_makes (functions.turned e) m)
  absolute_by a false e t = let c = Scalar (Constant a.sort a.number) in
      number_made g j lawful O at rule.WrongArgument (MayApply Abs c) (Applies Abs c) a.sort a.number (abs_number t) t
      (λ r. functions.applied t (functions.abs_constant (functions.itself e) r))
      (λ l m. abs_makes (functions.itself e) m)

  abs_known : {p : Option Operand} {c : Kind} → IsConstantOperand p c
      → OfOne Abs c (of_value (absolute_part g at (if_number (scalar_part p))))
  abs_known (constant_scalar a) = if_taken Abs (absolute_part g at) a (is_number a.sort)
      (decided_as functions.abs_takes abs_number (number_decided a.sort)) refl
      (absolute_by a (int_lt a.number (pos 0)) refl)
  abs_known (constant_set bits) = no_argument Abs (λ m. m)
  abs_known (constant_text text) = no_argument Abs (λ m. m)

  cap_known : {p : Option Operand} {c : Kind} → IsConstantOperand p c
      → OfOne Cap c (of_value (capital_part g at (scalar_part p)))
  cap_known (constant_scalar a) = subst (OfOne Cap (Scalar (Constant a.sort a.number)))
      (of_where g (not (is_char a.sort)) at rule.WrongArgument (Ok (number_value (Some char) (upper a.number))))
      (where_one Cap (is_char a.sort) (char_decided a.sort)
      (λ t. one_makes Cap t (valued_kind (Some char) (upper a.number)) functions.cap_constant (λ l m. cap_makes m)))
  cap_known (constant_set bits) = no_argument Cap (λ m. m)
  cap_known (constant_text text) = no_argument Cap (λ m. m)

  chr_by : (a : Ordinal) → TakesOne Chr a.sort
      → OfOne Chr (Scalar (Constant a.sort a.number)) (of_value (character_part g at (Some a)))
  chr_by a t = let c = Scalar (Constant a.sort a.number) in
      subst (OfOne Chr c) (of_where g (not (is_between (pos 0) a.number (pos 255))) at rule.OutOfRange
      (Ok (number_value (Some char) a.number)))
      (where_made g j lawful O at rule.WrongArgument (MayApply Chr c) (Applies Chr c)
      (is_between (pos 0) a.number (pos 255)) (within_decided (pos 0) a.number (pos 255)) t _
      (Scalar (Constant (Some char) a.number)) (valued_kind (Some char) a.number)
      (λ w. functions.applied t (functions.chr_constant w)) (λ l m. chr_makes m))

  chr_known : {p : Option Operand} {c : Kind} → IsConstantOperand p c
      → OfOne Chr c (of_value (character_part g at (if_number (scalar_part p))))
  chr_known (constant_scalar a) = if_taken Chr (character_part g at) a (is_number a.sort)
      (decided_as functions.chr_takes chr_number (number_decided a.sort)) refl (chr_by a)
  chr_known (constant_set bits) = no_argument Chr (λ m. m)
  chr_known (constant_text text) = no_argument Chr (λ m. m)

  odd_known : {p : Option Operand} {c : Kind} → IsConstantOperand p c
      → OfOne Odd c (of_value (odd_part g at (if_number (scalar_part p))))
  odd_known (constant_scalar a) = if_taken Odd (odd_part g at) a (is_number a.sort)
      (decided_as functions.odd_takes odd_number (number_decided a.sort)) refl
      (λ t. one_makes Odd t (kind_constant (constant_truth (int_lt (pos 0) (int_rem_euclid a.number (pos 2)))))
      functions.odd_constant (λ l m. odd_makes m))
  odd_known (constant_set bits) = no_argument Odd (λ m. m)
  odd_known (constant_text text) = no_argument Odd (λ m. m)

  ord_known : {p : Option Operand} {c : Kind} → IsConstantOperand p c
      → OfOne Ord c (of_value (ordinal_part g at (scalar_part p)))
  ord_known (constant_scalar a) = let c = Scalar (Constant a.sort a.number) in
      subst (OfOne Ord c) (of_where g (not (fits (Some cardinal) a.number)) at rule.OutOfRange
      (Ok (number_value (Some cardinal) a.number)))
      (where_made g j lawful O at rule.WrongArgument (MayApply Ord c) (Applies Ord c) (fits (Some cardinal) a.number)
      (range_decided a.number (k.whole k.is_cardinal)) functions.ord_takes _
      (Scalar (Constant (Some cardinal) a.number)) (valued_kind (Some cardinal) a.number)
      (λ r. functions.applied functions.ord_takes (functions.ord_constant r)) (λ l m. ord_makes m))
  ord_known (constant_set bits) = no_argument Ord (λ m. m)
  ord_known (constant_text text) = no_argument Ord (λ m. m)

  one_constant : {f : Standard} {u : Unary} (v : ConstantValue) → UnaryIs f u
      → OfOne f (operand (kind_of v)) (unary_at g f u at (computed.Constant v))
  one_constant v is_abs = abs_known (constant_is v)
  one_constant v is_cap = cap_known (constant_is v)
  one_constant v is_chr = chr_known (constant_is v)
  one_constant v is_odd = odd_known (constant_is v)
  one_constant v is_ord = ord_known (constant_is v)

  one_value : {f : Standard} {u : Unary} (b : TypeNo) (e : TypedExpr) → UnaryIs f u
      → OfOne f (Scalar (Value b)) (unary_scalar g u at b e)
  one_value b e is_abs = where_one Abs (is_numeric b)
      (decided_as functions.abs_takes abs_number (number_decided (Some b)))
      (λ t. one_makes Abs t (kind_scalar b b _) functions.abs_value (λ l m. abs_makes_value m))
  one_value b e is_cap = where_one Cap (are_same b char) (char_decided (Some b))
      (λ t. one_makes Cap t (kind_scalar char char _) functions.cap_value (λ l m. cap_makes_value m))
  one_value b e is_chr = where_one Chr (is_numeric b)
      (decided_as functions.chr_takes chr_number (number_decided (Some b)))
      (λ t. one_makes Chr t (kind_scalar char char _) functions.chr_value (λ l m. chr_makes_value m))
  one_value b e is_odd = where_one Odd (is_numeric b)
      (decided_as functions.odd_takes odd_number (number_decided (Some b)))
      (λ t. one_makes Odd t (kind_scalar boolean boolean _) functions.odd_value (λ l m. odd_makes_value m))
  one_value b e is_ord = one_makes Ord functions.ord_takes (kind_scalar cardinal cardinal _) functions.ord_value
      (λ l m. ord_makes_value m)

  pub one_answers : {f : Standard} {u : Unary} {x : Computed} {c : Kind} → UnaryIs f u → IsKind x c
      → OfOne f (operand c) (unary_at g f u at x)
  one_answers w (kind_constant v) = one_constant v w
  one_answers w (kind_scalar t b e) = one_value b e w
  one_answers {f = f} w (kind_set e) = no_argument f (λ m. m)
  one_answers {f = f} w (kind_routine t e) = no_argument f (λ m. m)
  one_answers {f = f} w (kind_procedure p) = no_argument f (λ m. m)
  one_answers {f = f} w (kind_whole t d) = no_argument f (λ m. m)
  one_answers {f = f} w kind_untaken = no_argument f (λ m. m)

-- ---- VAL

converts_taken : {r : Range} {c l : Kind} → Converts r c l → MayConvert c
converts_taken (functions.converted_constant n w) = n
converts_taken (functions.converted_value n) = n

constant_converts : {r : Range} {sort : Option TypeNo} {n : ℤ} {l : Kind} → Converts r (Scalar (Constant sort n)) l
    → Within r.low n r.high × (l ≡ Scalar (Constant (Some r.base) n))
constant_converts (functions.converted_constant q w) = (w, refl)

value_converts : {r : Range} {t : TypeNo} {l : Kind} → Converts r (Scalar (Value t)) l → l ≡ Scalar (Value r.base)
value_converts (functions.converted_value n) = refl

module _ (g : Gathers) (j : Judges g) (lawful : Lawful g j) (O : Breach → Type 0) (at : Pos) (t : TypeNo) (r : Range)
  where
    abbrev pub Converted : Kind → Result Computed g.Reported → Type 0
    Converted c v = Applied g j lawful O at rule.WrongArgument (MayConvert c) (Converts r c) v

    no_conversion : {c : Kind} → (MayConvert c → ⊥) → Converted c (report g at rule.WrongArgument)
    no_conversion {c = c} n = suits_not g j lawful O at rule.WrongArgument (MayConvert c) (Converts r c) n
        (λ l m. converts_taken m)

    convert_by : (a : Ordinal) (b : Bool) → Decided (IsNumber a.sort) b
        → Converted (Scalar (Constant a.sort a.number)) (of_value (converted_part g t r at (cond b (Some a) None)))
    convert_by a _ (holds n) = let c = Scalar (Constant a.sort a.number) in
        subst (Converted c) (of_where g (not (is_between r.low a.number r.high)) at rule.OutOfRange
        (Ok (bound_of t r a.number)))
        (where_made g j lawful O at rule.WrongArgument (MayConvert c) (Converts r c) (is_between r.low a.number r.high)
        (within_decided r.low a.number r.high) n _ (Scalar (Constant (Some r.base) a.number))
        (kind_constant (bound_of t r a.number))
        (λ w. functions.converted_constant n w) (λ l m. constant_converts m))
    convert_by a _ (fails_it n) = no_conversion n

    convert_known : {p : Option Operand} {c : Kind} → IsConstantOperand p c
        → Converted c (of_value (converted_part g t r at (if_number (scalar_part p))))
    convert_known (constant_scalar a) = convert_by a (is_number a.sort) (number_decided a.sort)
    convert_known (constant_set bits) = no_conversion (λ m. m)
    convert_known (constant_text text) = no_conversion (λ m. m)

    pub converted_answers : {x : Computed} {c : Kind} → IsKind x c → Converted (operand c) (converted_value g t r at x)
    converted_answers (kind_constant v) = convert_known (constant_is v)
    converted_answers (kind_scalar u b e) = let c = Scalar (Value b) in
        where_suits g j lawful O at rule.WrongArgument (MayConvert c) (Converts r c) (is_numeric b)
        (number_decided (Some b)) (λ l m. converts_taken m)
        (λ n. makes g j lawful O at rule.WrongArgument (MayConvert c) (Converts r c) n _ (Scalar (Value r.base))
        (kind_scalar t r.base _) (functions.converted_value n) (λ l m. value_converts m))
    converted_answers (kind_set e) = no_conversion (λ m. m)
    converted_answers (kind_routine u e) = no_conversion (λ m. m)
    converted_answers (kind_procedure p) = no_conversion (λ m. m)
    converted_answers (kind_whole u d) = no_conversion (λ m. m)
    converted_answers kind_untaken = no_conversion (λ m. m)
