-- Operators and standard functions make one thing at most of their operands.
use Rattle.std.proofs.Common.{◌≡◌, ℕ, Bool, true, false, Option, Some, None, refl, sym, ap, subst, ◌∙◌}
use Rattle.std.specs.Prelude.{ℤ, pos, int_lt, not}
use Rattle.typed_tree.specs.declared.types.TypeNo.{TypeNo}
use Rattle.typed_tree.specs.declared.meaning.Standard.{Standard}
use Rattle.typed_tree.specs.declared.shape.Scalar.{Scalar as Range}
use Rattle.typed_tree.specs.declared.known_types.Types.{Types}
use Rattle.typed_tree.specs.Types.{boolean}
use Rattle.m2_tree.specs.declared.expr.Sign.{Sign}
use Rattle.check_const.specs.declared.operator.BinaryOp.{BinaryOp}
use Rattle.def_typing.specs.Amounts as k
use Rattle.def_typing.specs.Amounts.{Amount, Constant, Value, GoTogether, AreRight, IsArithmetic, IsLogical, IsComparison, Evaluates, Says, Yields, Gives, Signs, truth}
use Rattle.def_typing.specs.Operators as rules
use Rattle.def_typing.specs.Operators.{Kind, Scalar, Set, Combines, Relates, IsCombining, IsSetRelation, Makes, SignMakes, Negates}
use Rattle.def_typing.specs.Functions as functions
use Rattle.def_typing.specs.Functions.{TakesOne, AbsoluteOf, Computes, Applies, BoundOf, Converts}

pub both : {A B C : Type 0} (f : A → B → C) {a b : A} {c d : B} → a ≡ b → c ≡ d → f a c ≡ f b d
both f {b = b} {c = c} p q = ap (λ x. f x c) p ∙ ap (λ y. f b y) q

pub clash : {b : Bool} → b ≡ true → b ≡ false → ⊥
clash e f = let z : true ≡ false = sym e ∙ f in absurd cc

pub some_one : {A : Type 0} {x y : A} → ◌≡◌ {A = Option A} (Some x) (Some y) → x ≡ y
some_one {A = A} {x = x} e = ap {A = Option A} {B = A} inner e
  where
    inner : Option A → A
    inner None = x
    inner (Some y) = y

abbrev joined : Option TypeNo → Option TypeNo → Option TypeNo
joined None b = b
joined (Some t) b = Some t

joined_as : {a b s : Option TypeNo} → GoTogether a b s → s ≡ joined a b
joined_as k.same_type = refl
joined_as k.numbers = refl
joined_as (k.number_left w) = refl
joined_as (k.number_right w) = refl

pub together_one : {a b s t : Option TypeNo} → GoTogether a b s → GoTogether a b t → s ≡ t
together_one p q = joined_as p ∙ sym (joined_as q)

right_one : {op : BinaryOp} {a b : Amount} {s t : Option TypeNo} → AreRight op a b s
    → AreRight op a b t → s ≡ t
right_one r q = together_one r.fits.together q.fits.together

evaluates_one : {op : BinaryOp} {x y z w : ℤ} → Evaluates op x y z → Evaluates op x y w → z ≡ w
evaluates_one k.sum_is k.sum_is = refl
evaluates_one k.difference_is k.difference_is = refl
evaluates_one k.product_is k.product_is = refl
evaluates_one k.quotient_is k.quotient_is = refl
evaluates_one k.remainder_is k.remainder_is = refl

says_one : {op : BinaryOp} {x y : ℤ} {b c : Bool} → Says op x y b → Says op x y c → b ≡ c
says_one k.both_hold k.both_hold = refl
says_one k.one_holds k.one_holds = refl
says_one k.compares k.compares = refl

says_nothing : {op : BinaryOp} {x y : ℤ} {b : Bool} → IsArithmetic op → Says op x y b → ⊥
says_nothing a k.both_hold = elim a [ ]
says_nothing a k.one_holds = elim a [ ]
says_nothing a k.compares = elim a [ ]

no_logical : {op : BinaryOp} → IsArithmetic op → IsLogical op → ⊥
no_logical a k.and = elim a [ ]
no_logical a k.or = elim a [ ]

no_comparison : {op : BinaryOp} → IsArithmetic op → IsComparison op → ⊥
no_comparison a k.equal = elim a [ ]
no_comparison a k.unequal = elim a [ ]
no_comparison a k.less = elim a [ ]
no_comparison a k.at_most = elim a [ ]
no_comparison a k.greater = elim a [ ]
no_comparison a k.at_least = elim a [ ]

yields_one : {op : BinaryOp} {t u v : TypeNo} → Yields op t u → Yields op t v → u ≡ v
yields_one (k.own_type a) (k.own_type b) = refl
yields_one (k.own_type a) (k.truth_of_two l) = absurd (no_logical a l)
yields_one (k.own_type a) (k.truth_of_order c) = absurd (no_comparison a c)
yields_one (k.truth_of_two l) (k.own_type a) = absurd (no_logical a l)
yields_one (k.truth_of_two l) (k.truth_of_two m) = refl
yields_one (k.truth_of_two l) (k.truth_of_order c) = refl
yields_one (k.truth_of_order c) (k.own_type a) = absurd (no_comparison a c)
yields_one (k.truth_of_order c) (k.truth_of_two m) = refl
yields_one (k.truth_of_order c) (k.truth_of_order d) = refl

gives_one : {op : BinaryOp} {a b c d : Amount} → Gives op a b c → Gives op a b d → c ≡ d
gives_one (k.constant r a e i) (k.constant q b h j) =
    both Constant (right_one r q) (evaluates_one e h)
gives_one (k.constant r a e i) (k.decided q x) = absurd (says_nothing a x)
gives_one (k.constant r a e i) (k.computed q c y) = elim c [ ]
gives_one (k.decided r x) (k.constant q b h j) = absurd (says_nothing b x)
gives_one (k.decided r x) (k.decided q y) = ap (λ (b : Bool). truth b) (says_one x y)
gives_one (k.decided r x) (k.computed q c y) = elim c [ ]
gives_one (k.computed r c y) (k.constant q b h j) = elim c [ ]
gives_one (k.computed r c y) (k.decided q x) = elim c [ ]
gives_one {op = op} (k.computed r c y) (k.computed {u = v} q d z) =
    ap Value
    (yields_one y (subst (λ (t : TypeNo). Yields op t v) (sym (some_one (right_one r q))) z))

combines_one : {op : BinaryOp} {a b c d : ℕ} → Combines op a b c → Combines op a b d → c ≡ d
combines_one rules.union rules.union = refl
combines_one rules.difference rules.difference = refl
combines_one rules.intersection rules.intersection = refl
combines_one rules.symmetric_difference rules.symmetric_difference = refl

relates_one : {op : BinaryOp} {a b : ℕ} {v w : Bool} → Relates op a b v → Relates op a b w → v ≡ w
relates_one rules.equal_sets rules.equal_sets = refl
relates_one rules.unequal_sets rules.unequal_sets = refl
relates_one rules.within rules.within = refl
relates_one rules.around rules.around = refl

no_relation : {op : BinaryOp} {a b c : ℕ} {v : Bool} → Combines op a b c → Relates op a b v → ⊥
no_relation rules.union r = elim r [ ]
no_relation rules.difference r = elim r [ ]
no_relation rules.intersection r = elim r [ ]
no_relation rules.symmetric_difference r = elim r [ ]

no_set_relation : {op : BinaryOp} → IsCombining op → IsSetRelation op → ⊥
no_set_relation rules.by_plus r = elim r [ ]
no_set_relation rules.by_minus r = elim r [ ]
no_set_relation rules.by_times r = elim r [ ]
no_set_relation rules.by_over r = elim r [ ]

pub makes_one : {types : Types} {op : BinaryOp} {a b c d : Kind} → Makes types op a b c
    → Makes types op a b d → c ≡ d
makes_one (rules.scalar g) (rules.scalar h) = ap Scalar (gives_one g h)
makes_one (rules.scalar g) (rules.routines e r) = elim r [ ]
makes_one (rules.constant_set c) (rules.constant_set d) =
    ap (λ (n : ℕ). Set (Some n)) (combines_one c d)
makes_one (rules.constant_set c) (rules.constant_relation r) = absurd (no_relation c r)
makes_one (rules.constant_set c) (rules.set i n) = elim n [ ]
makes_one (rules.constant_set c) (rules.relation i n) = elim n [ ]
makes_one (rules.constant_set c) (rules.routines e r) = elim r [ ]
makes_one (rules.constant_relation r) (rules.constant_set c) = absurd (no_relation c r)
makes_one (rules.constant_relation r) (rules.constant_relation q) =
    ap (λ (b : Bool). Scalar (truth b)) (relates_one r q)
makes_one (rules.constant_relation r) (rules.set i n) = elim n [ ]
makes_one (rules.constant_relation r) (rules.relation i n) = elim n [ ]
makes_one (rules.constant_relation r) (rules.routines e q) = elim q [ ]
makes_one (rules.constant_member i n e) (rules.constant_member j m f) = refl
makes_one (rules.constant_member i n e) (rules.member j m f c) = elim c [ ]
makes_one (rules.constant_member i n e) (rules.routines f r) = elim r [ ]
makes_one (rules.set i n) (rules.constant_set c) = elim n [ ]
makes_one (rules.set i n) (rules.constant_relation r) = elim n [ ]
makes_one (rules.set i n) (rules.set j m) = refl
makes_one (rules.set i n) (rules.relation j m) = absurd (no_set_relation i j)
makes_one (rules.set i n) (rules.routines e r) = elim r [ ]
makes_one (rules.relation i n) (rules.constant_set c) = elim n [ ]
makes_one (rules.relation i n) (rules.constant_relation r) = elim n [ ]
makes_one (rules.relation i n) (rules.set j m) = absurd (no_set_relation j i)
makes_one (rules.relation i n) (rules.relation j m) = refl
makes_one (rules.relation i n) (rules.routines e r) = elim r [ ]
makes_one (rules.member i n e c) (rules.constant_member j m f) = elim c [ ]
makes_one (rules.member i n e c) (rules.member j m f d) = refl
makes_one (rules.member i n e c) (rules.routines f r) = elim r [ ]
makes_one (rules.routines e r) (rules.scalar g) = elim r [ ]
makes_one (rules.routines e r) (rules.constant_set c) = elim r [ ]
makes_one (rules.routines e r) (rules.constant_relation q) = elim r [ ]
makes_one (rules.routines e r) (rules.constant_member i n f) = elim r [ ]
makes_one (rules.routines e r) (rules.set i n) = elim r [ ]
makes_one (rules.routines e r) (rules.relation i n) = elim r [ ]
makes_one (rules.routines e r) (rules.member i n f c) = elim r [ ]
makes_one (rules.routines e r) (rules.routines f q) = refl

signs_one : {o : Sign} {a b c : Amount} → Signs o a b → Signs o a c → b ≡ c
signs_one k.plus_is k.plus_is = refl
signs_one (k.minus_constant i) (k.minus_constant j) = refl
signs_one k.minus_value k.minus_value = refl

pub sign_one : {o : Sign} {a b c : Kind} → SignMakes o a b → SignMakes o a c → b ≡ c
sign_one (rules.signed t s) (rules.signed u r) = ap Scalar (signs_one s r)

abbrev negated : Kind → Kind
negated (Scalar (Constant s n)) = Scalar (truth (not (int_lt (pos 0) n)))
negated (Scalar (Value t)) = Scalar (Value boolean)
negated other = other

negates_as : {a b : Kind} → Negates a b → b ≡ negated a
negates_as rules.not_constant = refl
negates_as rules.not_value = refl

pub negates_one : {a b c : Kind} → Negates a b → Negates a c → b ≡ c
negates_one n m = negates_as n ∙ sym (negates_as m)

absolute_one : {n m z : ℤ} → AbsoluteOf n m → AbsoluteOf n z → m ≡ z
absolute_one (functions.turned e) (functions.turned f) = refl
absolute_one (functions.turned e) (functions.itself f) = absurd (clash e f)
absolute_one (functions.itself e) (functions.turned f) = absurd (clash f e)
absolute_one (functions.itself e) (functions.itself f) = refl

computes_one : {f : Standard} {a b c : Amount} → Computes f a b → Computes f a c → b ≡ c
computes_one (functions.abs_constant {sort = s} x i) (functions.abs_constant y j) =
    ap (λ (n : ℤ). Constant s n) (absolute_one x y)
computes_one functions.abs_value functions.abs_value = refl
computes_one functions.cap_constant functions.cap_constant = refl
computes_one functions.cap_value functions.cap_value = refl
computes_one (functions.chr_constant w) (functions.chr_constant v) = refl
computes_one functions.chr_value functions.chr_value = refl
computes_one functions.odd_constant functions.odd_constant = refl
computes_one functions.odd_value functions.odd_value = refl
computes_one (functions.ord_constant i) (functions.ord_constant j) = refl
computes_one functions.ord_value functions.ord_value = refl

pub applies_one : {f : Standard} {a b c : Kind} → Applies f a b → Applies f a c → b ≡ c
applies_one (functions.applied t x) (functions.applied u y) = ap Scalar (computes_one x y)

pub converts_one : {r : Range} {a b c : Kind} → Converts r a b → Converts r a c → b ≡ c
converts_one (functions.converted_constant n w) (functions.converted_constant m v) = refl
converts_one (functions.converted_value n) (functions.converted_value m) = refl

pub bound_one : {r : Range} {f : Standard} {n m : ℤ} → BoundOf r f n → BoundOf r f m → n ≡ m
bound_one functions.greatest functions.greatest = refl
bound_one functions.smallest functions.smallest = refl

-- MAX and MIN take no value.
pub no_value : {r : Range} {f : Standard} {n : ℤ} {a b : Kind} → BoundOf r f n → Applies f a b → ⊥
no_value functions.greatest (functions.applied t x) = elim t [ ]
no_value functions.smallest (functions.applied t x) = elim t [ ]
