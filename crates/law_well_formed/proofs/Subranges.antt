-- Subranges, where each bound is a number of its type.
use Rattle.std.proofs.Common.{◌≡◌, ℕ, zero, suc, ◌≤ℤ◌, ◌==◌, ℤ, pos, negsuc, Bool, true, false, List, [], ◌∷◌, Option, Some, None, Result, Ok, Err, if◌then◌else◌, refl, sym, ap, subst, ◌∙◌, arith}
use Rattle.std.proofs.lemmas.Int.{ints}
use Rattle.std.specs.Prelude.{slice_get, nat_eq, cond, ◌&&◌, ◌||◌, not, int_le, int_lt}
use Rattle.std.specs.List.{list_all}
use Rattle.std.specs.Map.{lookup}
use Rattle.m2_rule.specs.declared.rule.Rule.{Rule}
use Rattle.m2_rule.specs.declared.rule.Rule.TheVariants as rule
use Rattle.m2_tree.specs.declared.pos.Pos.{Pos}
use Rattle.m2_tree.specs.declared.expr.Expr.{Expr}
use Rattle.m2_tree.specs.declared.expr.Qualified.{Qualified}
use Rattle.typed_tree.specs.declared.types.Home.{Home}
use Rattle.typed_tree.specs.declared.types.Home.TheVariants.{Predeclared, Module}
use Rattle.typed_tree.specs.declared.types.TypeNo.{TypeNo}
use Rattle.typed_tree.specs.declared.shape.Scalar.{Scalar as Range}
use Rattle.typed_tree.specs.declared.shape.Shape.{Shape}
use Rattle.typed_tree.specs.declared.shape.Shape.TheVariants as shape
use Rattle.typed_tree.specs.declared.shape.Made.{Made}
use Rattle.typed_tree.specs.declared.meaning.Value.{Value}
use Rattle.typed_tree.specs.declared.meaning.Value.TheVariants as value
use Rattle.typed_tree.specs.declared.known_types.Types.{Types}
use Rattle.typed_tree.specs.Types.{are_same, is_one_home, is_integer, is_numeric, integer, cardinal, boolean, char}
use Rattle.typed_tree.specs.Known.{scalar_at, scalar_from, scalar_made, scalar_shape, in_list, predeclared_scalar, range}
use Rattle.check_scope.specs.declared.scope.Scope.{Scope}
use Rattle.check_scope.specs.Elaborated.{Gathers, reported_where, beside}
use Rattle.check_const.specs.declared.operand.Ordinal.{Ordinal}
use Rattle.check_const.specs.declared.operand.Operand.{Operand}
use Rattle.check_const.specs.declared.operand.Operand.TheVariants as operands
use Rattle.check_const.specs.Operands.{letter, letter_operand, operand_of}
use Rattle.check_const.specs.Numbers.{is_between, fits as number_fits}
use Rattle.check_const.specs.Common.{common}
use Rattle.check_const.specs.Bounds.{fits_base, is_of_base, ordered_if, ordinal_in}
use Rattle.check_expr.specs.Meanings.{part}
use Rattle.check_type_expr.specs.Named.{first_of, named_type}
use Rattle.check_type_expr.specs.Subranges.{number_base, subrange_of_base, between, subrange_between, are_bounds, subrange_within, under}
use Rattle.check_type_expr.specs.Made.{scalar_or, scalar_named, bound_at, subrange}
use Rattle.law_well_formed.specs.Formed.{Holds, fine, broken}
use Rattle.law_well_formed.proofs.Basics.{then_holds, holds_weaker, reported_holds, both_holds, any_holds}
use Rattle.law_well_formed.proofs.ScopesDeclarations.{same_home}
use Rattle.law_modules.proofs.Known.{none_there}
use Rattle.law_well_formed.specs.FormedRanges.{fits_character, fits, IsNumber, ValueRanged, IsBased, ShapeBased, AllBased, OthersBased, ScopeRanged, ConstantsAreRanged}
use Rattle.law_well_formed.proofs.RangesTypes.{same_types, both_left, both_right}

-- ---- tests of numbers

pub from_le : (x y : ℤ) → int_le x y ≡ true → x ≤ℤ y
from_le x y e = grind (arith, e)

pub not_less : (x y : ℤ) → int_lt x y ≡ false → y ≤ℤ x
not_less x y e = grind (arith, e)

pub through : (a b c : ℤ) → a ≤ℤ b → b ≤ℤ c → a ≤ℤ c
through a b c h k = omega (arith, ints, h, k)

pub at_itself : (a : ℤ) → a ≤ℤ a
at_itself a = omega (arith, ints)

pub between_in : (low n high : ℤ) → is_between low n high ≡ true → (low ≤ℤ n) × (n ≤ℤ high)
between_in low n high e = (
  from_le low n (both_left (int_le low n) (int_le n high) e),
  from_le n high
      (both_right (int_le low n) (int_le n high) e),
)

not_false : (b : Bool) → not b ≡ false → b ≡ true
not_false true e = refl
not_false false e = absurd cc

one_some : (a b : Range) → Some a ≡ Some b → a ≡ b
one_some a b e = cc

-- ---- a type is the same as itself

home_itself : (h : Home) → is_one_home h h ≡ true
home_itself Predeclared = refl
home_itself (Module n) = same_home n n refl

pub type_itself : (t : TypeNo) → are_same t t ≡ true
type_itself t = by (is_one_home t.home t.home) (t.number == t.number) (home_itself t.home)
    (same_home t.number t.number refl) where
      by : (a b : Bool) → a ≡ true → b ≡ true → (a && b) ≡ true
      by true b e f = f
      by false b e f = absurd cc

-- ---- results

module _ (g : Gathers) where
  pub test_holds : (q : Bool) (at : Pos) (n : Rule)
      → Holds (λ x. q ≡ false) (reported_where g {A = Unit {0}} q at n (Ok tt))
  test_holds true at n = broken _
  test_holds false at n = fine tt refl

  pub beside_holds : {P Q : Type 0} {a b : Result (Unit {0}) g.Reported} → Holds (λ x. P) a → Holds (λ x. Q) b
      → Holds (λ x. P × Q) (beside g a b)
  beside_holds p q = then_holds (both_holds g p q) (λ x k. fine tt k)

-- ---- types that are known

module _ (types : Types) where
  pub number_between : (t base : TypeNo) (low n high : ℤ) → IsNumber types t base low → IsNumber types t base high
      → low ≤ℤ n → n ≤ℤ high → IsNumber types t base n
  number_between t base low n high p q l h =
      let same : q.range ≡ p.range = one_some q.range p.range (sym q.at ∙ p.at) in
      record {
        range = p.range;
        at = p.at;
        own = p.own;
        low = through p.range.low low n p.low l;
        high = through n high p.range.high h (subst (λ (r : Range). high ≤ℤ r.high) same q.high);
      }

  -- a type that computes in itself
  own_based : (t : TypeNo) (r : Range) → scalar_at types t ≡ Some r → r.base ≡ t → r.low ≤ℤ r.high → IsBased types r
  own_based t r e b some =
      let at : scalar_at types r.base ≡ Some r = ap (λ (u : TypeNo). scalar_at types u) b ∙ e in
      record {
        low = record { range = r; at = at; own = refl; low = at_itself r.low; high = some };
        high = record { range = r; at = at; own = refl; low = some; high = at_itself r.high };
      }

  abbrev there : ℕ → TypeNo
  there n = record { home = Predeclared; number = n }

  predeclared_based : (n : ℕ) (r : Range) → predeclared_scalar n ≡ Some r → IsBased types r
  predeclared_based zero r e = subst (λ (r : Range). IsBased types r)
      (one_some (range integer (negsuc 2147483647) (pos 2147483647)) r e)
      (own_based (there 0) (range integer (negsuc 2147483647) (pos 2147483647)) refl refl (omega (arith, ints)))
  predeclared_based (suc zero) r e = subst (λ (r : Range). IsBased types r)
      (one_some (range cardinal (pos 0) (pos 4294967295)) r e)
      (own_based (there 1) (range cardinal (pos 0) (pos 4294967295)) refl refl (omega (arith, ints)))
  predeclared_based (suc (suc zero)) r e =
      subst (λ (r : Range). IsBased types r) (one_some (range boolean (pos 0) (pos 1)) r e)
      (own_based (there 2) (range boolean (pos 0) (pos 1)) refl refl (omega (arith, ints)))
  predeclared_based (suc (suc (suc zero))) r e =
      subst (λ (r : Range). IsBased types r) (one_some (range char (pos 0) (pos 255)) r e)
      (own_based (there 3) (range char (pos 0) (pos 255)) refl refl (omega (arith, ints)))
  predeclared_based (suc (suc (suc (suc n)))) r e = absurd (none_there (suc (suc (suc (suc n)))) r (omega arith) e)

  shape_based : (s : Shape) (r : Range) → ShapeBased types s → scalar_shape s ≡ Some r → IsBased types r
  shape_based (shape.Scalar s) r h e = subst (λ (x : Range). IsBased types x) (one_some s r e) h
  shape_based shape.Set r h e = absurd cc
  shape_based (shape.Array i x) r h e = absurd cc
  shape_based (shape.Record fs) r h e = absurd cc
  shape_based (shape.Procedure p) r h e = absurd cc
  shape_based (shape.Open x) r h e = absurd cc

  all_based : (ms : List Made) (n : ℕ) (r : Range) → AllBased types ms → scalar_made (slice_get ms n) ≡ Some r
      → IsBased types r
  all_based [] n r h e = absurd cc
  all_based (m ∷ ms) zero r h e = shape_based m.shape r h.0 e
  all_based (m ∷ ms) (suc n) r h e = all_based ms n r h.1 e

  others_by : (b : Bool) (home : ℕ) (ms : List Made) (es : List (ℕ × List Made)) (n : ℕ) (r : Range) → AllBased types ms
      → (scalar_made (in_list n (lookup (nat_eq home) es)) ≡ Some r → IsBased types r)
      → scalar_made (in_list n (cond b (Some ms) (lookup (nat_eq home) es))) ≡ Some r → IsBased types r
  others_by true home ms es n r h k e = all_based ms n r h e
  others_by false home ms es n r h k e = k e

  others_based : (home : ℕ) (es : List (ℕ × List Made)) (n : ℕ) (r : Range) → OthersBased types es
      → scalar_made (in_list n (lookup (nat_eq home) es)) ≡ Some r → IsBased types r
  others_based home [] n r h e = absurd cc
  others_based home (x ∷ es) n r h e = others_by (nat_eq home x.0) home x.1 es n r h.0
      (λ f. others_based home es n r h.1 f) e

pub based_at : (types : Types) → AllBased types types.own → OthersBased types types.others → (t : TypeNo) (r : Range)
    → scalar_at types t ≡ Some r → IsBased types r
based_at types own others t r e = from t.home t.number e where
  here : (b : Bool) (home n : ℕ) → scalar_made
      (cond b (slice_get types.own n) (in_list n (lookup (nat_eq home) types.others))) ≡ Some r → IsBased types r
  here true home n e = all_based types types.own n r own e
  here false home n e = others_based types home types.others n r others e

  from : (h : Home) (n : ℕ) → scalar_from types h n ≡ Some r → IsBased types r
  from Predeclared n e = predeclared_based types n r e
  from (Module k) n e = here (k == types.home) k n e

-- ---- operands

module _ (types : Types) where
  abbrev pub SortRanged : Option TypeNo → ℤ → Type 0
  SortRanged None n = (negsuc 2147483647 ≤ℤ n) × (n ≤ℤ pos 4294967295)
  SortRanged (Some t) n = IsNumber types t t n

  abbrev pub OperandRanged : Option Operand → Type 0
  OperandRanged None = Unit {0}
  OperandRanged (Some (operands.Set bits)) = Unit {0}
  OperandRanged (Some (operands.Scalar a)) = SortRanged a.sort a.number

  text_ranged : (text : List ℕ) → list_all fits_character text ≡ true → OperandRanged (letter_operand (letter text))
  text_ranged [] p = tt
  text_ranged (c ∷ []) p = record {
    range = range char (pos 0) (pos 255);
    at = refl;
    own = refl;
    low =
        omega (arith, ints);
    high = from_le (pos c) (pos 255) (both_left (fits_character c) true p);
  }
  text_ranged (c ∷ d ∷ text) p = tt

  pub operand_ranged : (v : Value) → ValueRanged types v → OperandRanged (operand_of v)
  operand_ranged (value.Number n) p = p
  operand_ranged (value.Scalar s) p = p.1
  operand_ranged (value.Set bits) p = tt
  operand_ranged (value.Text text) p = text_ranged text p

  -- INTEGER and CARDINAL have what fits
  integer_number : (t : TypeNo) (n : ℤ) → t ≡ integer → is_between (negsuc 2147483647) n (pos 2147483647) ≡ true
      → IsNumber types t t n
  integer_number t n e f =
      let b = between_in (negsuc 2147483647) n (pos 2147483647) f in
      subst (λ (u : TypeNo). IsNumber types u u n) (sym e)
      (record {
        range = range integer (negsuc 2147483647) (pos 2147483647);
        at = refl;
        own = refl;
        low = b.0;
        high =
            b.1;
      })

  cardinal_number : (t : TypeNo) (n : ℤ) → t ≡ cardinal → is_between (pos 0) n (pos 4294967295) ≡ true
      → IsNumber types t t n
  cardinal_number t n e f =
      let b = between_in (pos 0) n (pos 4294967295) f in
      subst (λ (u : TypeNo). IsNumber types u u n) (sym e)
      (record { range = range cardinal (pos 0) (pos 4294967295); at = refl; own = refl; low = b.0; high = b.1 })

  pub fits_number : (t : TypeNo) (n : ℤ) → is_numeric t ≡ true → number_fits (Some t) n ≡ true → IsNumber types t t n
  fits_number t n i f = by (is_integer t) (are_same t cardinal) refl refl i f where
    by : (a b : Bool) → is_integer t ≡ a → are_same t cardinal ≡ b → (a || b) ≡ true
        → cond a (is_between (negsuc 2147483647) n (pos 2147483647)) (is_between (pos 0) n (pos 4294967295)) ≡ true
        → IsNumber types t t n
    by true b p q i f = integer_number t n (same_types t integer p) f
    by false true p q i f = cardinal_number t n (same_types t cardinal q) f
    by false false p q i f = absurd cc

  -- ---- subranges with no type named

  pub record SubRanged (r : Range) : Type 0 where
    pub low : IsNumber types r.base r.base r.low
    pub high : IsNumber types r.base r.base r.high
    pub some : r.low ≤ℤ r.high

  module _ (g : Gathers) where
    pub ordinal_ranged : (at : Pos) (o : Option Operand) → OperandRanged o
        → Holds (λ (a : Ordinal). SortRanged a.sort a.number) (ordinal_in g at o)
    ordinal_ranged at None p = reported_holds g at rule.WrongType
    ordinal_ranged at (Some (operands.Set bits)) p = reported_holds g at rule.WrongType
    ordinal_ranged at (Some (operands.Scalar a)) p = fine a p

    based_ranged : (at at' : Pos) (a b : Ordinal) (base : TypeNo)
        → Holds (λ x. IsNumber types base base a.number) (fits_base g at base a.sort a.number)
        → Holds (λ x. IsNumber types base base b.number) (fits_base g at' base b.sort b.number)
        → Holds SubRanged (subrange_of_base g at a at' b base)
    based_ranged at at' a b base p q =
        then_holds (beside_holds g (test_holds g (int_lt b.number a.number) at rule.EmptyRange) (beside_holds g p q))
        (λ x k.
        fine (record { base = base; low = a.number; high = b.number })
        (record { low = k.1.0; high = k.1.1; some = not_less b.number a.number k.0 }))

    fits_none : (at : Pos) (base : TypeNo) (n : ℤ) → is_numeric base ≡ true
        → Holds (λ x. IsNumber types base base n) (fits_base g at base None n)
    fits_none at base n i = holds_weaker (λ x k. fits_number base n i (not_false (number_fits (Some base) n) k))
        (test_holds g (not (number_fits (Some base) n)) at rule.OutOfRange)

    base_numeric : (b : Bool) → is_numeric (cond b integer cardinal) ≡ true
    base_numeric true = refl
    base_numeric false = refl

    between_ranged : (at at' : Pos) (sa sb : Option TypeNo) (na nb : ℤ) → SortRanged sa na → SortRanged sb nb
        → Holds SubRanged (between g at (record { sort = sa; number = na }) at' (record { sort = sb; number = nb })
        (common sa sb))
    between_ranged at at' None None na nb p q =
        based_ranged at at' (record { sort = None; number = na }) (record { sort = None; number = nb }) (number_base na)
        (fits_none at (number_base na) na (base_numeric (int_lt na (pos 0))))
        (fits_none at' (number_base na) nb (base_numeric (int_lt na (pos 0))))
    between_ranged at at' None (Some t) na nb p q = by (is_numeric t) refl where
      by : (c : Bool) → is_numeric t ≡ c → Holds SubRanged
          (between g at (record { sort = None; number = na }) at' (record { sort = Some t; number = nb })
          (if c then Some (Some t) else None))
      by true e = based_ranged at at' (record { sort = None; number = na }) (record { sort = Some t; number = nb }) t
          (fits_none at t na e) (fine tt q)
      by false e = reported_holds g at' rule.WrongType
    between_ranged at at' (Some t) None na nb p q = by (is_numeric t) refl where
      by : (c : Bool) → is_numeric t ≡ c → Holds SubRanged
          (between g at (record { sort = Some t; number = na }) at' (record { sort = None; number = nb })
          (if c then Some (Some t) else None))
      by true e = based_ranged at at' (record { sort = Some t; number = na }) (record { sort = None; number = nb }) t
          (fine tt p) (fits_none at' t nb e)
      by false e = reported_holds g at' rule.WrongType
    between_ranged at at' (Some t) (Some u) na nb p q = by (are_same t u) refl where
      by : (c : Bool) → are_same t u ≡ c → Holds SubRanged
          (between g at (record { sort = Some t; number = na }) at' (record { sort = Some u; number = nb })
          (if c then Some (Some t) else None))
      by true e = based_ranged at at' (record { sort = Some t; number = na }) (record { sort = Some u; number = nb }) t
          (fine tt p) (fine tt (subst (λ (k : TypeNo). IsNumber types k k nb) (sym (same_types t u e)) q))
      by false e = reported_holds g at' rule.WrongType

    pub unnamed_ranged : (at at' : Pos) {low high : Result Ordinal g.Reported}
        → Holds (λ (a : Ordinal). SortRanged a.sort a.number) low
        → Holds (λ (a : Ordinal). SortRanged a.sort a.number) high
        → Holds SubRanged (subrange_between g at low at' high)
    unnamed_ranged at at' p q = then_holds (both_holds g p q)
        (λ x k. between_ranged at at' x.0.sort x.1.sort x.0.number x.1.number k.0 k.1)

    -- ---- subranges under a named type

    is_of_holds : (at : Pos) (x y : Bool) →
        Holds (λ u. (x ≡ true) × (y ≡ true)) (reported_where g {A = Unit {0}} (not x) at rule.WrongType
        (reported_where g (not y) at rule.OutOfRange (Ok tt)))
    is_of_holds at false y = broken _
    is_of_holds at true false = broken _
    is_of_holds at true true = fine tt (refl, refl)

    -- bounds of one base go together
    alike : (at : Pos) (base : TypeNo) (sa sb : Option TypeNo) (na nb : ℤ)
        → Holds (λ x. is_of_base base sa ≡ true → is_of_base base sb ≡ true → na ≤ℤ nb)
        (ordered_if g at (record { sort = sa; number = na }) (record { sort = sb; number = nb }) (common sa sb))
    alike at base None None na nb = holds_weaker (λ x k p q. not_less nb na k)
        (test_holds g (int_lt nb na) at rule.EmptyRange)
    alike at base None (Some t) na nb = by (is_numeric t) refl where
      clash : is_numeric t ≡ false → is_numeric base ≡ true → are_same t base ≡ true → ⊥
      clash e p q = let z : true ≡ false = sym p ∙ (ap is_numeric (sym (same_types t base q)) ∙ e) in absurd cc

      by : (c : Bool) → is_numeric t ≡ c
          → Holds (λ x. is_numeric base ≡ true → are_same t base ≡ true → na ≤ℤ nb)
          (ordered_if g at (record { sort = None; number = na }) (record { sort = Some t; number = nb })
          (if c then Some (Some t) else None))
      by true e = holds_weaker (λ x k p q. not_less nb na k) (test_holds g (int_lt nb na) at rule.EmptyRange)
      by false e = fine tt (λ p q. absurd (clash e p q))
    alike at base (Some t) None na nb = by (is_numeric t) refl where
      clash : is_numeric t ≡ false → is_numeric base ≡ true → are_same t base ≡ true → ⊥
      clash e p q = let z : true ≡ false = sym p ∙ (ap is_numeric (sym (same_types t base q)) ∙ e) in absurd cc

      by : (c : Bool) → is_numeric t ≡ c
          → Holds (λ x. are_same t base ≡ true → is_numeric base ≡ true → na ≤ℤ nb)
          (ordered_if g at (record { sort = Some t; number = na }) (record { sort = None; number = nb })
          (if c then Some (Some t) else None))
      by true e = holds_weaker (λ x k p q. not_less nb na k) (test_holds g (int_lt nb na) at rule.EmptyRange)
      by false e = fine tt (λ p q. absurd (clash e q p))
    alike at base (Some t) (Some u) na nb = by (are_same t u) refl where
      clash : are_same t u ≡ false → are_same t base ≡ true → are_same u base ≡ true → ⊥
      clash e p q =
          let same : t ≡ u = same_types t base p ∙ sym (same_types u base q) in
          let z : true ≡ false = sym (type_itself u) ∙ (ap (λ (k : TypeNo). are_same k u) (sym same) ∙ e) in absurd cc

      by : (c : Bool) → are_same t u ≡ c
          → Holds (λ x. are_same t base ≡ true → are_same u base ≡ true → na ≤ℤ nb)
          (ordered_if g at (record { sort = Some t; number = na }) (record { sort = Some u; number = nb })
          (if c then Some (Some t) else None))
      by true e = holds_weaker (λ x k p q. not_less nb na k) (test_holds g (int_lt nb na) at rule.EmptyRange)
      by false e = fine tt (λ p q. absurd (clash e p q))

    limited_fine : (r : Range) (a b : Ordinal) {t : Result (Unit {0}) g.Reported}
        → Holds (λ x. SubRanged (record { base = r.base; low = a.number; high = b.number })) t
        → Holds SubRanged (subrange_within g (Ok (r, (a, b))) t)
    limited_fine r a b (fine x k) = fine _ k
    limited_fine r a b (broken e) = broken e

    limited_broken : (e : g.Reported) (t : Result (Unit {0}) g.Reported) → Holds SubRanged (subrange_within g (Err e) t)
    limited_broken e (Ok x) = broken e
    limited_broken e (Err f) = broken (g.join e f)

    bounds_ranged : (at at' : Pos) (r : Range) (a b : Ordinal) → IsBased types r
        → Holds (λ x. SubRanged (record { base = r.base; low = a.number; high = b.number }))
        (are_bounds g (Ok r) at (Ok a) at' (Ok b))
    bounds_ranged at at' r a b h =
        holds_weaker (λ x k.
        let l = between_in r.low a.number r.high k.0.0.1 in
        let u = between_in r.low b.number r.high k.0.1.1 in
        record {
          low = number_between types r.base r.base r.low a.number r.high h.low h.high l.0 l.1;
          high = number_between types r.base r.base r.low b.number r.high h.low h.high u.0 u.1;
          some = k.1 k.0.0.0 k.0.1.0;
        })
        (beside_holds g (beside_holds g (is_of_holds at (is_of_base r.base a.sort) (is_between r.low a.number r.high))
        (is_of_holds at' (is_of_base r.base b.sort) (is_between r.low b.number r.high)))
        (alike at r.base a.sort b.sort a.number b.number))

    pub under_ranged : (at at' : Pos) (of : Result Range g.Reported) (low high : Result Ordinal g.Reported)
        → Holds (IsBased types) of → Holds SubRanged (under g of at low at' high)
    under_ranged at at' (Ok r) (Ok a) (Ok b) (fine x h) = limited_fine r a b (bounds_ranged at at' r a b h)
    under_ranged at at' (Ok r) (Ok a) (Err e) h = limited_broken e (are_bounds g (Ok r) at (Ok a) at' (Err e))
    under_ranged at at' (Ok r) (Err e) (Ok b) h = limited_broken e (are_bounds g (Ok r) at (Err e) at' (Ok b))
    under_ranged at at' (Ok r) (Err e) (Err f) h =
        limited_broken (g.join e f) (are_bounds g (Ok r) at (Err e) at' (Err f))
    under_ranged at at' (Err d) (Ok a) (Ok b) h = limited_broken d (are_bounds g (Err d) at (Ok a) at' (Ok b))
    under_ranged at at' (Err d) (Ok a) (Err e) h =
        limited_broken (g.join d e) (are_bounds g (Err d) at (Ok a) at' (Err e))
    under_ranged at at' (Err d) (Err e) (Ok b) h =
        limited_broken (g.join d e) (are_bounds g (Err d) at (Err e) at' (Ok b))
    under_ranged at at' (Err d) (Err e) (Err f) h =
        limited_broken (g.join d (g.join e f)) (are_bounds g (Err d) at (Err e) at' (Err f))

-- ---- subranges

module _ (g : Gathers) (known : ConstantsAreRanged g) (s : Scope g.Reported) (h : ScopeRanged s) where
  bound_ranged : (e : Expr) → fits e ≡ true
      → Holds (λ (a : Ordinal). SortRanged s.types a.sort a.number) (bound_at g s (part g e))
  bound_ranged e f = then_holds (known s h e f)
      (λ v k. ordinal_ranged s.types g (part g e).at (operand_of v) (operand_ranged s.types v k))

  scalar_or_based : (at : Pos) (t : TypeNo) (o : Option Range) → scalar_at s.types t ≡ o
      → Holds (IsBased s.types) (scalar_or g at o)
  scalar_or_based at t None e = reported_holds g at rule.NoType
  scalar_or_based at t (Some r) e = fine r (based_at s.types h.own h.others t r e)

  scalar_named_based : (q : Qualified) → Holds (IsBased s.types) (scalar_named g s q)
  scalar_named_based q = then_holds (any_holds (named_type g s q))
      (λ t k. scalar_or_based (first_of q) t (scalar_at s.types t) refl)

  pub subrange_ranged : (of : Option Qualified) (low high : Expr) → fits low ≡ true → fits high ≡ true
      → Holds (SubRanged s.types) (subrange g s of (part g low) (part g high))
  subrange_ranged None low high p q = unnamed_ranged s.types g (part g low).at (part g high).at (bound_ranged low p)
      (bound_ranged high q)
  subrange_ranged (Some n) low high p q =
      under_ranged s.types g (part g low).at (part g high).at (scalar_named g s n) (bound_at g s (part g low))
      (bound_at g s (part g high)) (scalar_named_based n)
