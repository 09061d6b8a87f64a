-- The range of a type that is known.
use Rattle.std.proofs.Common.{◌≡◌, ℕ, zero, suc, ◌+◌, ◌<◌, ◌==◌, pos, negsuc, Bool, true, false, List, [], ◌∷◌, Option, Some, None, refl, sym, subst, arith}
use Rattle.std.proofs.lemmas.Int.{ints}
use Rattle.std.proofs.lemmas.Bool.{eqb-true}
use Rattle.std.specs.Prelude.{slice_get, nat_eq, cond}
use Rattle.std.specs.Map.{lookup}
use Rattle.typed_tree.specs.declared.types.Home.{Home}
use Rattle.typed_tree.specs.declared.types.Home.TheVariants.{Predeclared, Module}
use Rattle.typed_tree.specs.declared.types.TypeNo.{TypeNo}
use Rattle.typed_tree.specs.declared.shape.Scalar.{Scalar as Range}
use Rattle.typed_tree.specs.declared.shape.Shape.{Shape}
use Rattle.typed_tree.specs.declared.shape.Shape.TheVariants as shape
use Rattle.typed_tree.specs.declared.shape.Made.{Made}
use Rattle.typed_tree.specs.declared.known_types.Types.{Types}
use Rattle.typed_tree.specs.Types.{integer, cardinal, boolean, char}
use Rattle.typed_tree.specs.Known.{scalar_at, scalar_from, scalar_made, scalar_shape, made_in, in_list, predeclared_scalar, range}
use Rattle.law_modules.specs.Ranges.{IsRange, IsRanged, type_of, AreRangedFrom, OthersRanged, AreRanged}

-- ---- predeclared types

-- there are four of them
pub none_there : (n : ℕ) (s : Range) → 3 < n → predeclared_scalar n ≡ Some s → ⊥
none_there n s less e = by (n == 0) refl (n == 1) refl (n == 2) refl (n == 3) refl e
  where
    by : (a : Bool) → (n == 0) ≡ a → (b : Bool) → (n == 1) ≡ b → (c : Bool) → (n == 2) ≡ c → (d : Bool) → (n == 3) ≡ d
        → cond a (Some (range integer (negsuc 2147483647) (pos 2147483647)))
        (cond b (Some (range cardinal (pos 0) (pos 4294967295)))
        (cond c (Some (range boolean (pos 0) (pos 1))) (cond d (Some (range char (pos 0) (pos 255))) None)))
        ≡ Some s → ⊥
    by true h b i c j d k e = let m = eqb-true n 0 h in omega (arith, m, less)
    by false h true i c j d k e = let m = eqb-true n 1 i in omega (arith, m, less)
    by false h false i true j d k e = let m = eqb-true n 2 j in omega (arith, m, less)
    by false h false i false j true k e = let m = eqb-true n 3 k in omega (arith, m, less)
    by false h false i false j false k e = cc e

-- the predeclared scalars have ranges of the language
pub predeclared_is : (n : ℕ) (s : Range) → predeclared_scalar n ≡ Some s
    → IsRange (record { home = Predeclared; number = n }) s
predeclared_is zero s e = let same : range integer (negsuc 2147483647) (pos 2147483647) ≡ s = cc in
    subst (λ (r : Range). IsRange (record { home = Predeclared; number = 0 }) r) same (record {
      low = omega (arith, ints);
      high = omega (arith, ints);
      some = omega (arith, ints);
      narrow = omega (arith, ints);
      integer = λ a b. (refl, refl);
      base = λ a b. absurd cc;
    })
predeclared_is (suc zero) s e = let same : range cardinal (pos 0) (pos 4294967295) ≡ s = cc in
    subst (λ (r : Range). IsRange (record { home = Predeclared; number = 1 }) r) same (record {
      low = omega (arith, ints);
      high = omega (arith, ints);
      some = omega (arith, ints);
      narrow = omega (arith, ints);
      integer = λ a b. absurd cc;
      base = λ a b. refl;
    })
predeclared_is (suc (suc zero)) s e = let same : range boolean (pos 0) (pos 1) ≡ s = cc in
    subst (λ (r : Range). IsRange (record { home = Predeclared; number = 2 }) r) same (record {
      low = omega (arith, ints);
      high = omega (arith, ints);
      some = omega (arith, ints);
      narrow = omega (arith, ints);
      integer = λ a b. absurd cc;
      base = λ a b. refl;
    })
predeclared_is (suc (suc (suc zero))) s e = let same : range char (pos 0) (pos 255) ≡ s = cc in
    subst (λ (r : Range). IsRange (record { home = Predeclared; number = 3 }) r) same (record {
      low = omega (arith, ints);
      high = omega (arith, ints);
      some = omega (arith, ints);
      narrow = omega (arith, ints);
      integer = λ a b. absurd cc;
      base = λ a b. refl;
    })
predeclared_is (suc (suc (suc (suc n)))) s e = absurd (none_there (suc (suc (suc (suc n)))) s (omega arith) e)

-- ---- the range of a type

ranged_from : (home k : ℕ) (ms : List Made) (n : ℕ) (m : Made) → AreRangedFrom home k ms → slice_get ms n ≡ Some m
    → IsRanged (type_of home (k + n)) m.shape
ranged_from home k [] n m h e = absurd cc
ranged_from home k (x ∷ ms) zero m h e = let same : x ≡ m = cc in
    subst (λ (i : ℕ). IsRanged (type_of home i) m.shape) (omega arith)
    (subst (λ (y : Made). IsRanged (type_of home k) y.shape) same h.0)
ranged_from home k (x ∷ ms) (suc n) m h e =
    subst (λ (i : ℕ). IsRanged (type_of home i) m.shape) (omega arith) (ranged_from home (suc k) ms n m h.1 e)

ranged_in : (home : ℕ) (es : List (ℕ × List Made)) (n : ℕ) (m : Made) → OthersRanged es
    → in_list n (lookup (nat_eq home) es) ≡ Some m → IsRanged (type_of home n) m.shape
ranged_in home [] n m h e = absurd cc
ranged_in home (x ∷ es) n m h e = by (nat_eq home x.0) refl (λ g. ranged_in home es n m h.1 g) e
  where
    by : (b : Bool) → nat_eq home x.0 ≡ b →
        (in_list n (lookup (nat_eq home) es) ≡ Some m → IsRanged (type_of home n) m.shape)
        → in_list n (cond b (Some x.1) (lookup (nat_eq home) es)) ≡ Some m → IsRanged (type_of home n) m.shape
    by true f onward g =
        let same = eqb-true home x.0 f in
        subst (λ (i : ℕ). IsRanged (type_of home i) m.shape) (omega arith)
        (subst (λ (k : ℕ). IsRanged (type_of k (0 + n)) m.shape) (sym same) (ranged_from x.0 0 x.1 n m h.0 g))
    by false f onward g = onward g

ranged_made : (types : Types) → AreRanged types → (home n : ℕ) (m : Made) → made_in types home n ≡ Some m
    → IsRanged (type_of home n) m.shape
ranged_made types is home n m e = by (home == types.home) refl e
  where
    by : (b : Bool) → (home == types.home) ≡ b
        → cond b (slice_get types.own n) (in_list n (lookup (nat_eq home) types.others)) ≡ Some m
        → IsRanged (type_of home n) m.shape
    by true f g =
        let same = eqb-true home types.home f in
        subst (λ (i : ℕ). IsRanged (type_of home i) m.shape) (omega arith)
        (subst (λ (k : ℕ). IsRanged (type_of k (0 + n)) m.shape) (sym same)
        (ranged_from types.home 0 types.own n m is.own g))
    by false f g = ranged_in home types.others n m is.others g

shape_range : (t : TypeNo) (s : Shape) (r : Range) → IsRanged t s → scalar_shape s ≡ Some r → IsRange t r
shape_range t (shape.Scalar s) r h e = let same : s ≡ r = cc in subst (λ (x : Range). IsRange t x) same h
shape_range t shape.Set r h e = absurd cc
shape_range t (shape.Array i x) r h e = absurd cc
shape_range t (shape.Record fs) r h e = absurd cc
shape_range t (shape.Procedure p) r h e = absurd cc
shape_range t (shape.Open x) r h e = absurd cc

made_range : (t : TypeNo) (o : Option Made) (r : Range) → ((m : Made) → o ≡ Some m → IsRanged t m.shape)
    → scalar_made o ≡ Some r → IsRange t r
made_range t None r h e = absurd cc
made_range t (Some m) r h e = shape_range t m.shape r (h m refl) e

pub range_at : (types : Types) → AreRanged types → (t : TypeNo) (r : Range) → scalar_at types t ≡ Some r → IsRange t r
range_at types is t r e = by t.home refl e
  where
    by : (home : Home) → t.home ≡ home → scalar_from types home t.number ≡ Some r → IsRange t r
    by Predeclared f g = subst (λ (k : Home). IsRange (record { home = k; number = t.number }) r) (sym f)
        (predeclared_is t.number r g)
    by (Module home) f g = made_range t (made_in types home t.number) r
        (λ m k. subst (λ (j : Home). IsRanged (record { home = j; number = t.number }) m.shape) (sym f)
        (ranged_made types is home t.number m k)) g
