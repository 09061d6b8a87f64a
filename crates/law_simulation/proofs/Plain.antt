-- The trees of such types are plain.
use Rattle.std.proofs.Common.{◌≡◌, ℕ, zero, suc, ◌≤ℤ◌, ℤ, pos, negsuc, Bool, true, false, List, [], ◌∷◌, ◌++◌, map, length, Option, Some, None, if◌then◌else◌, refl, sym, subst, arith}
use Rattle.std.proofs.lemmas.Int.{ints}
use Rattle.std.proofs.lemmas.List.{length-append}
use Rattle.std.specs.Prelude.{slice_get, nat_eq, unsigned_abs, cond}
use Rattle.std.specs.List.{fold}
use Rattle.std.specs.Map.{lookup}
use Rattle.typed_tree.specs.declared.types.Home.{Home}
use Rattle.typed_tree.specs.declared.types.Home.TheVariants.{Predeclared, Module}
use Rattle.typed_tree.specs.declared.types.TypeNo.{TypeNo}
use Rattle.typed_tree.specs.declared.shape.Scalar.{Scalar as Range}
use Rattle.typed_tree.specs.declared.shape.Shape.{Shape}
use Rattle.typed_tree.specs.declared.shape.Shape.TheVariants as shape
use Rattle.typed_tree.specs.declared.shape.Made.{Made}
use Rattle.typed_tree.specs.declared.known_types.Types.{Types}
use Rattle.typed_tree.specs.Types.{are_same, is_integer}
use Rattle.typed_tree.specs.Known.{predeclared_scalar}
use Rattle.layout_storage.specs.Types.{Ty, Natural, Integer, Between, Callable, Heading, row, IsScalar, IsPlain}
use Rattle.layout_storage.specs.Shapes.{Trees, scalar_kind, or_nothing, in_module, scalar_tree, tree_from, tree_in, heading_tree, shape_tree, with_made, module_trees, with_module, other_trees, known_trees, tree}
use Rattle.law_modules.specs.Ranges.{IsRange, IsRanged, type_of, AreRangedFrom, OthersRanged, AreRanged}
use Rattle.law_modules.proofs.Known.{predeclared_is}

-- ---- scalars

word_scalar : IsScalar (Natural 4294967295)
word_scalar = record {
  low = omega (arith, ints);
  high = omega (arith, ints);
  some = omega (arith, ints);
  narrow =
      omega (arith, ints);
}

integer_scalar : IsScalar Integer
integer_scalar = record {
  low = omega (arith, ints);
  high = omega (arith, ints);
  some = omega (arith, ints);
  narrow =
      omega (arith, ints);
}

callable_scalar : (h : Heading) → IsScalar (Callable h)
callable_scalar h = record {
  low = omega (arith, ints);
  high = omega (arith, ints);
  some = omega (arith, ints);
  narrow =
      omega (arith, ints);
}

-- a number that is not negative
natural_scalar : (high : ℤ) → pos 0 ≤ℤ high → high ≤ℤ pos 4294967295 → IsScalar (Natural (unsigned_abs high))
natural_scalar (pos h) low high = record {
  low = omega (arith, ints);
  high = high;
  some = omega (arith, ints);
  narrow =
      omega (arith, ints, high);
}
natural_scalar (negsuc h) low high = absurd (omega (arith, ints, low))

pub scalar_is : (t : TypeNo) (s : Range) → IsRange t s → IsScalar (scalar_kind t s)
scalar_is t s is = by (are_same t s.base) refl (is_integer t) refl
  where
    by : (b : Bool) → are_same t s.base ≡ b → (c : Bool) → is_integer t ≡ c
        → IsScalar (if b then (if c then Integer else Natural (unsigned_abs s.high)) else Between s.low s.high)
    by true e true f = integer_scalar
    by true e false f =
        let low = is.base e f in natural_scalar s.high (subst (λ (v : ℤ). v ≤ℤ s.high) low is.some) is.high
    by false e c f = record { low = is.low; high = is.high; some = is.some; narrow = is.narrow }

-- ---- trees

AllPlain : List Ty → Type 0
AllPlain [] = Unit {0}
AllPlain (t ∷ ts) = IsPlain t × AllPlain ts

TreesPlain : Trees → Type 0
TreesPlain [] = Unit {0}
TreesPlain (e ∷ es) = AllPlain e.1 × TreesPlain es

found_plain : (ts : List Ty) (n : ℕ) → AllPlain ts → IsPlain (or_nothing (slice_get ts n))
unfolding AllPlain
found_plain [] n h = tt
found_plain (t ∷ ts) zero h = h.0
found_plain (t ∷ ts) (suc n) h = found_plain ts n h.1

looked_plain : (test : ℕ → Bool) (es : Trees) (n : ℕ) → TreesPlain es → IsPlain (in_module (lookup test es) n)
unfolding TreesPlain AllPlain
looked_plain test [] n h = tt
looked_plain test (e ∷ es) n h = by (test e.0) (found_plain e.1 n h.0) (looked_plain test es n h.1)
  where
    by : (b : Bool) → IsPlain (or_nothing (slice_get e.1 n)) → IsPlain (in_module (lookup test es) n)
        → IsPlain (in_module (cond b (Some e.1) (lookup test es)) n)
    by true f g = f
    by false f g = g

scalar_plain : (t : TypeNo) (o : Option Range) → ((s : Range) → o ≡ Some s → IsRange t s) → IsPlain (scalar_tree t o)
scalar_plain t None h = word_scalar
scalar_plain t (Some s) h = scalar_is t s (h s refl)

in_plain : (before : Trees) → TreesPlain before → (t : TypeNo) → IsPlain (tree_in before t)
in_plain before h t = by t.home refl
  where
    by : (home : Home) → t.home ≡ home → IsPlain (tree_from before t home)
    by Predeclared e = scalar_plain t (predeclared_scalar t.number)
        (λ s f. subst (λ (k : Home). IsRange (record { home = k; number = t.number }) s) (sym e)
        (predeclared_is t.number s f))
    by (Module home) e = looked_plain (nat_eq home) before t.number h

row_plain : {A : Type 0} (before : Trees) → TreesPlain before → (fs : List (A × TypeNo))
    → IsPlain (row (map (λ f. tree_in before f.1) fs))
row_plain before h [] = tt
row_plain before h (f ∷ fs) = (in_plain before h f.1, row_plain before h fs)

shape_plain : (types : Types) (before : Trees) → TreesPlain before → (t : TypeNo) (s : Shape) → IsRanged t s
    → IsPlain (shape_tree types before t s)
shape_plain types before h t (shape.Scalar s) is = scalar_is t s is
shape_plain types before h t shape.Set is = word_scalar
shape_plain types before h t (shape.Array i e) is = in_plain before h e
shape_plain types before h t (shape.Record fs) is = row_plain before h fs
shape_plain types before h t (shape.Procedure p) is = callable_scalar (heading_tree before p.formals p.result)
shape_plain types before h t (shape.Open e) is = tt

one_more : (ts : List Ty) (t : Ty) → AllPlain ts → IsPlain t → AllPlain (ts ++ t ∷ [])
unfolding AllPlain
one_more [] t h k = (k, tt)
one_more (u ∷ ts) t h k = (h.0, one_more ts t h.1 k)

trees_more : (es : Trees) (e : ℕ × List Ty) → TreesPlain es → AllPlain e.1 → TreesPlain (es ++ e ∷ [])
unfolding TreesPlain
trees_more [] e h k = (k, tt)
trees_more (x ∷ es) e h k = (h.0, trees_more es e h.1 k)

module_plain : (types : Types) (before : Trees) (home : ℕ) → TreesPlain before → (ts : List Ty) (n : ℕ) (ms : List Made)
    → length ts ≡ n → AllPlain ts → AreRangedFrom home n ms → AllPlain (fold (with_made types before home) ts ms)
unfolding TreesPlain
module_plain types before home h ts n [] e plain is = plain
module_plain types before home h ts n (m ∷ ms) e plain is =
    let t : Ty = shape_tree types ((home, ts) ∷ before) (type_of home (length ts)) m.shape in
    let here : IsRanged (type_of home (length ts)) m.shape =
    subst (λ (k : ℕ). IsRanged (type_of home k) m.shape) (sym e) is.0 in
    let long = length-append ts (t ∷ []) in
    module_plain types before home h (ts ++ t ∷ []) (suc n) ms (omega (arith, long, e))
    (one_more ts t plain (shape_plain types ((home, ts) ∷ before) (plain, h) (type_of home (length ts)) m.shape
    here)) is.1

others_plain : (types : Types) (before : Trees) → TreesPlain before → (es : List (ℕ × List Made)) → OthersRanged es
    → TreesPlain (fold (with_module types) before es)
unfolding AllPlain
others_plain types before h [] is = h
others_plain types before h (e ∷ es) is =
    others_plain types (with_module types before e)
    (trees_more before (e.0, module_trees types before e.0 e.1) h
    (module_plain types before e.0 h [] 0 e.1 refl tt is.0)) es is.1

known_plain : (types : Types) → AreRanged types → TreesPlain (known_trees types)
unfolding known_trees TreesPlain AllPlain
known_plain types is =
    let others = others_plain types [] tt types.others is.others in
    (module_plain types (other_trees types) types.home others [] 0 types.own refl tt is.own, others)

-- each of them
pub tree_plain : (types : Types) → AreRanged types → (t : TypeNo) → IsPlain (tree types t)
tree_plain types is t = in_plain (known_trees types) (known_plain types is) t
