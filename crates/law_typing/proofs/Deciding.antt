-- The tests of the elaboration decide what the rules speak of.
use Rattle.std.proofs.Common.{◌≡◌, ℕ, ℤ, pos, negsuc, Bool, true, false, cond, Option, Some, None, refl, sym, ap, subst, ◌∙◌, arith}
use Rattle.std.specs.Prelude.{◌&&◌, ◌||◌, ◌==◌}
use Rattle.std.proofs.lemmas.Bool.Decides.{nat_tests}
use Rattle.m2_tree.specs.declared.expr.RelOp.TheVariants as rel
use Rattle.typed_tree.specs.declared.types.Home.{Home}
use Rattle.typed_tree.specs.declared.types.Home.TheVariants.{Predeclared, Module}
use Rattle.typed_tree.specs.declared.types.TypeNo.{TypeNo}
use Rattle.typed_tree.specs.Types.{is_one_home, are_same, is_numeric, integer, cardinal, boolean}
use Rattle.check_const.specs.declared.operator.BinaryOp.{BinaryOp}
use Rattle.check_const.specs.declared.operator.BinaryOp.TheVariants.{Plus, Minus, Times, Over, Div, Mod, And, Or, Relation}
use Rattle.check_const.specs.Operands.{is_number, is_truth}
use Rattle.check_const.specs.Numbers.{fits, is_between}
use Rattle.check_const.specs.Common.{common}
use Rattle.check_const.specs.Operate.{takes}
use Rattle.def_typing.specs.Amounts as k
use Rattle.def_typing.specs.Amounts.{IsWhole, IsNumber, Within, InRange, GoTogether, IsArithmetic, IsLogical, IsComparison, Takes, TakesSign, in_numbers, in_integer, in_cardinal, same_type, numbers, number_left, number_right, arithmetic, logical, comparison}
use Rattle.law_typing.proofs.Combining.{Decided, holds, fails_it, decided_as}

pub both_decided : {P Q : Type 0} {b c : Bool} → Decided P b → Decided Q c → Decided (P × Q) (b && c)
both_decided (holds p) (holds q) = holds (p, q)
both_decided (holds p) (fails_it n) = fails_it (λ x. n x.1)
both_decided (fails_it n) d = fails_it (λ x. n x.0)

pub decided_itself : (b : Bool) → Decided (b ≡ true) b
decided_itself true = holds refl
decided_itself false = fails_it (λ e. absurd cc)

-- ---- types

equal_numbers : (m n : ℕ) → (m == n) ≡ true → m ≡ n
equal_numbers m n e = grind (arith, nat_tests)

same_number : (n : ℕ) → (n == n) ≡ true
same_number n = grind (arith, nat_tests)

one_home : (m n : Home) → is_one_home m n ≡ true → m ≡ n
one_home Predeclared Predeclared e = refl
one_home Predeclared (Module n) e = absurd cc
one_home (Module m) Predeclared e = absurd cc
one_home (Module m) (Module n) e = ap Module (equal_numbers m n e)

home_itself : (m : Home) → is_one_home m m ≡ true
home_itself Predeclared = refl
home_itself (Module m) = same_number m

and_left : (a b : Bool) → (a && b) ≡ true → a ≡ true
and_left true b e = refl
and_left false b e = e

and_right : (a b : Bool) → (a && b) ≡ true → b ≡ true
and_right true b e = e
and_right false b e = absurd cc

both_true : (a b : Bool) → a ≡ true → b ≡ true → (a && b) ≡ true
both_true true b e f = f
both_true false b e f = e

pub same_itself : (t : TypeNo) → are_same t t ≡ true
same_itself t = both_true (is_one_home t.home t.home) (t.number == t.number) (home_itself t.home) (same_number t.number)

type_of_parts : (h h' : Home) (n n' : ℕ) → h ≡ h' → n ≡ n'
    → ◌≡◌ {A = TypeNo} (record { home = h; number = n }) (record { home = h'; number = n' })
type_of_parts h h' n n' p q = ap (λ (x : Home). let t : TypeNo = record { home = x; number = n } in t) p
    ∙ ap (λ (x : ℕ). let t : TypeNo = record { home = h'; number = x } in t) q

same_as : (t u : TypeNo) (b : Bool) → are_same t u ≡ b → Decided (t ≡ u) b
same_as t u true e = holds (type_of_parts t.home u.home t.number u.number
    (one_home t.home u.home (and_left (is_one_home t.home u.home) (t.number == u.number) e))
    (equal_numbers t.number u.number (and_right (is_one_home t.home u.home) (t.number == u.number) e)))
same_as t u false e = fails_it (λ p. let same : are_same t u ≡ true =
    subst (λ (x : TypeNo). are_same t x ≡ true) p (same_itself t) in let clash : true ≡ false = sym same ∙ e in
    absurd cc)

pub same_decided : (t u : TypeNo) → Decided (t ≡ u) (are_same t u)
same_decided t u = same_as t u (are_same t u) refl

not_whole : {t : TypeNo} → (t ≡ integer → ⊥) → (t ≡ cardinal → ⊥) → IsWhole t → ⊥
not_whole n m k.is_integer = n refl
not_whole n m k.is_cardinal = m refl

whole_by : (t : TypeNo) {a b : Bool} → Decided (t ≡ integer) a → Decided (t ≡ cardinal) b → Decided (IsWhole t) (a || b)
whole_by t (holds p) d = holds (subst IsWhole (sym p) k.is_integer)
whole_by t (fails_it n) (holds p) = holds (subst IsWhole (sym p) k.is_cardinal)
whole_by t (fails_it n) (fails_it m) = fails_it (not_whole n m)

pub whole_decided : (t : TypeNo) → Decided (IsWhole t) (is_numeric t)
whole_decided t = whole_by t (same_decided t integer) (same_decided t cardinal)

of_whole : {t : TypeNo} → IsNumber (Some t) → IsWhole t
of_whole (k.whole w) = w

pub number_decided : (sort : Option TypeNo) → Decided (IsNumber sort) (is_number sort)
number_decided None = holds k.number
number_decided (Some t) = decided_as k.whole of_whole (whole_decided t)

abbrev unsome : {A : Type 0} → A → Option A → A
unsome a None = a
unsome a (Some x) = x

pub some_same : {A : Type 0} (x y : A) → Some x ≡ Some y → x ≡ y
some_same x y e = ap (unsome x) e

pub truth_decided : (sort : Option TypeNo) → Decided (sort ≡ Some boolean) (is_truth sort)
truth_decided None = fails_it (λ e. absurd cc)
truth_decided (Some t) = decided_as (λ e. ap Some e) (some_same t boolean) (same_decided t boolean)

-- ---- ranges

pub within_decided : (low n high : ℤ) → Decided (Within low n high) (is_between low n high)
within_decided low n high = decided_as (λ p. record { from_low = p.0; to_high = p.1 }) (λ w. (w.from_low, w.to_high))
    (both_decided (decided_itself _) (decided_itself _))

pub range_decided : {sort : Option TypeNo} (n : ℤ) → IsNumber sort → Decided (InRange sort n) (fits sort n)
range_decided n k.number = decided_as in_numbers low (within_decided _ n _)
  where
    low : InRange None n → Within (negsuc 2147483647) n (pos 4294967295)
    low (in_numbers a) = a
range_decided n (k.whole k.is_integer) = decided_as in_integer low (within_decided _ n _)
  where
    low : InRange (Some integer) n → Within (negsuc 2147483647) n (pos 2147483647)
    low (in_integer a) = a
range_decided n (k.whole k.is_cardinal) = decided_as in_cardinal low (within_decided _ n _)
  where
    low : InRange (Some cardinal) n → Within (pos 0) n (pos 4294967295)
    low (in_cardinal a) = a

-- ---- two scalars

pub data TogetherIs (a b : Option TypeNo) : Option (Option TypeNo) → Type 0 where
  together : (sort : Option TypeNo) → GoTogether a b sort → ((s : Option TypeNo) → GoTogether a b s → s ≡ sort)
      → TogetherIs a b (Some sort)
  apart : ((s : Option TypeNo) → GoTogether a b s → ⊥) → TogetherIs a b None

only_none : (s : Option TypeNo) → GoTogether None None s → s ≡ None
only_none _ numbers = refl

only_right : (t : TypeNo) (s : Option TypeNo) → GoTogether None (Some t) s → IsWhole t × (s ≡ Some t)
only_right t _ (number_left w) = (w, refl)

only_left : (t : TypeNo) (s : Option TypeNo) → GoTogether (Some t) None s → IsWhole t × (s ≡ Some t)
only_left t _ (number_right w) = (w, refl)

only_same : (t u : TypeNo) (s : Option TypeNo) → GoTogether (Some t) (Some u) s → (t ≡ u) × (s ≡ Some t)
only_same t _ _ same_type = (refl, refl)

together_right : (t : TypeNo) {b : Bool} → Decided (IsWhole t) b
    → TogetherIs None (Some t) (cond b (Some (Some t)) None)
together_right t (holds w) = together (Some t) (number_left w) (λ s p. (only_right t s p).1)
together_right t (fails_it n) = apart (λ s p. n (only_right t s p).0)

together_left : (t : TypeNo) {b : Bool} → Decided (IsWhole t) b → TogetherIs (Some t) None (cond b (Some (Some t)) None)
together_left t (holds w) = together (Some t) (number_right w) (λ s p. (only_left t s p).1)
together_left t (fails_it n) = apart (λ s p. n (only_left t s p).0)

together_both : (t u : TypeNo) {b : Bool} → Decided (t ≡ u) b
    → TogetherIs (Some t) (Some u) (cond b (Some (Some t)) None)
together_both t u (holds e) = together (Some t)
    (subst (λ (u : TypeNo). GoTogether (Some t) (Some u) (Some t)) e same_type) (λ s p. (only_same t u s p).1)
together_both t u (fails_it n) = apart (λ s p. n (only_same t u s p).0)

pub common_is : (a b : Option TypeNo) → TogetherIs a b (common a b)
common_is None None = together None numbers only_none
common_is None (Some t) = together_right t (whole_decided t)
common_is (Some t) None = together_left t (whole_decided t)
common_is (Some t) (Some u) = together_both t u (same_decided t u)

-- ---- operators

pub not_both : {op : BinaryOp} → IsArithmetic op → IsLogical op → ⊥
not_both k.plus l = elim l [ ]
not_both k.minus l = elim l [ ]
not_both k.times l = elim l [ ]
not_both k.div l = elim l [ ]
not_both k.modulo l = elim l [ ]

pub no_comparison : {op : BinaryOp} → IsArithmetic op → IsComparison op → ⊥
no_comparison k.plus l = elim l [ ]
no_comparison k.minus l = elim l [ ]
no_comparison k.times l = elim l [ ]
no_comparison k.div l = elim l [ ]
no_comparison k.modulo l = elim l [ ]

pub takes_number : {op : BinaryOp} {sort : Option TypeNo} → IsArithmetic op → Takes op sort → IsNumber sort
takes_number a (arithmetic b n) = n
takes_number a (logical l) = absurd (not_both a l)
takes_number a (comparison c) = absurd (no_comparison a c)

pub logical_apart : {op : BinaryOp} → IsLogical op → IsComparison op → ⊥
logical_apart k.and l = elim l [ ]
logical_apart k.or l = elim l [ ]

pub takes_truth : {op : BinaryOp} {sort : Option TypeNo} → IsLogical op → Takes op sort → sort ≡ Some boolean
takes_truth l (arithmetic b n) = absurd (not_both b l)
takes_truth l (logical m) = refl
takes_truth l (comparison c) = absurd (logical_apart l c)

pub takes_nothing : {op : BinaryOp} {sort : Option TypeNo} → (IsArithmetic op → ⊥) → (IsLogical op → ⊥)
    → (IsComparison op → ⊥) → Takes op sort → ⊥
takes_nothing a l c (arithmetic b n) = a b
takes_nothing a l c (logical m) = l m
takes_nothing a l c (comparison d) = c d

arithmetic_decided : {op : BinaryOp} (sort : Option TypeNo) → IsArithmetic op → Decided (Takes op sort) (is_number sort)
arithmetic_decided sort a = decided_as (arithmetic a) (takes_number a) (number_decided sort)

logical_decided : {op : BinaryOp} (sort : Option TypeNo) → IsLogical op → Decided (Takes op sort) (is_truth sort)
logical_decided {op = op} sort l = decided_as (λ e. subst (Takes op) (sym e) (logical l)) (takes_truth l)
    (truth_decided sort)

pub takes_decided : (op : BinaryOp) (sort : Option TypeNo) → Decided (Takes op sort) (takes op sort)
takes_decided Plus sort = arithmetic_decided sort k.plus
takes_decided Minus sort = arithmetic_decided sort k.minus
takes_decided Times sort = arithmetic_decided sort k.times
takes_decided Over sort = fails_it (takes_nothing (λ a. elim a [ ]) (λ a. elim a [ ]) (λ a. elim a [ ]))
takes_decided Div sort = arithmetic_decided sort k.div
takes_decided Mod sort = arithmetic_decided sort k.modulo
takes_decided And sort = logical_decided sort k.and
takes_decided Or sort = logical_decided sort k.or
takes_decided (Relation rel.In) sort = fails_it (takes_nothing (λ a. elim a [ ]) (λ a. elim a [ ]) (λ a. elim a [ ]))
takes_decided (Relation rel.Equal) sort = holds (comparison k.equal)
takes_decided (Relation rel.Unequal) sort = holds (comparison k.unequal)
takes_decided (Relation rel.Less) sort = holds (comparison k.less)
takes_decided (Relation rel.AtMost) sort = holds (comparison k.at_most)
takes_decided (Relation rel.Greater) sort = holds (comparison k.greater)
takes_decided (Relation rel.AtLeast) sort = holds (comparison k.at_least)
