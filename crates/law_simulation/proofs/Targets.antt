-- Which arm a value leads to: no label is below the least or above the greatest, and the table has one arm for each
-- value.
use Rattle.std.proofs.Common.{◌≡◌, ℕ, suc, ◌<◌, ℤ, pos, negsuc, ◌+ℤ◌, ◌≤ℤ◌, ◌<ℤ◌, Bool, true, false, List, [], ◌∷◌, ◌++◌, length, if◌then◌else◌, refl, ap, ◌∙◌, arith}
use Rattle.std.specs.Prelude.{◌||◌, int_le, slice_index_or}
use Rattle.std.specs.List.{fold, list_any}
use Rattle.std.proofs.lemmas.Int.{ints}
use Rattle.std.proofs.lemmas.List.FromFn.{get_or-map-range_with_len}
use Rattle.typed_tree.specs.declared.statement.Label.{Label}
use Rattle.def_meaning.specs.Operators.{is_between}
use Rattle.def_meaning.specs.Statements.{is_labelled}
use Rattle.def_scheme.specs.Steps as code
use Rattle.def_scheme.specs.Steps.{lesser, greater, all_labels, least_of, greatest_of, span_of, has_label, target, targets}
use Rattle.law_simulation.specs.Scene.{AreLabels}

abbrev least_from : ℤ → List Label → ℤ
least_from so ys = fold (λ (so : ℤ) (y : Label). lesser so y.low) so ys

abbrev greatest_from : ℤ → List Label → ℤ
greatest_from so ys = fold (λ (so : ℤ) (y : Label). greater so y.high) so ys

-- ---- bounds of all labels

abbrev AllFrom : ℤ → List Label → Type 0
AllFrom low [] = Unit {0}
AllFrom low (y ∷ ys) = (low ≤ℤ y.low) × AllFrom low ys

abbrev AllTo : ℤ → List Label → Type 0
AllTo high [] = Unit {0}
AllTo high (y ∷ ys) = (y.high ≤ℤ high) × AllTo high ys

lesser_is : (x y : ℤ) → (lesser x y ≤ℤ x) × (lesser x y ≤ℤ y)
lesser_is x y = by (int_le x y) refl
  where
    by : (b : Bool) → int_le x y ≡ b → ((if b then x else y) ≤ℤ x) × ((if b then x else y) ≤ℤ y)
    by true e = (grind arith, grind (arith, e))
    by false e = (grind (arith, e), grind arith)

greater_is : (x y : ℤ) → (x ≤ℤ greater x y) × (y ≤ℤ greater x y)
greater_is x y = by (int_le x y) refl
  where
    by : (b : Bool) → int_le x y ≡ b → (x ≤ℤ (if b then y else x)) × (y ≤ℤ (if b then y else x))
    by true e = (grind (arith, e), grind arith)
    by false e = (grind arith, grind (arith, e))

through : (a b c : ℤ) → a ≤ℤ b → b ≤ℤ c → a ≤ℤ c
through a b c h g = grind (arith, h, g)

least_is : (so : ℤ) (ys : List Label) → (least_from so ys ≤ℤ so) × AllFrom (least_from so ys) ys
least_is so [] = (grind arith, tt)
least_is so (y ∷ ys) =
    let l = lesser_is so y.low in
    let rest = least_is (lesser so y.low) ys in (
      through (least_from so (y ∷ ys)) (lesser so y.low) so rest.0 l.0,
      (through (least_from so (y ∷ ys)) (lesser so y.low) y.low rest.0 l.1, rest.1),
    )

greatest_is : (so : ℤ) (ys : List Label) → (so ≤ℤ greatest_from so ys) × AllTo (greatest_from so ys) ys
greatest_is so [] = (grind arith, tt)
greatest_is so (y ∷ ys) =
    let l = greater_is so y.high in
    let rest = greatest_is (greater so y.high) ys in (
      through so (greater so y.high) (greatest_from so (y ∷ ys)) l.0 rest.0,
      (through y.high (greater so y.high) (greatest_from so (y ∷ ys)) l.1 rest.0, rest.1),
    )

all_from : (ls : List Label) → AllFrom (least_of ls) ls
all_from [] = tt
all_from (x ∷ xs) = least_is x.low xs

all_to : (ls : List Label) → AllTo (greatest_of ls) ls
all_to [] = tt
all_to (x ∷ xs) = greatest_is x.high xs

-- ---- the least label is not above the greatest, and both are numbers of 32 bits

least_high : (low so : ℤ) (ys : List Label) → AreLabels ys → negsuc 2147483647 ≤ℤ so
    → negsuc 2147483647 ≤ℤ least_from so ys
least_high low so [] are h = h
least_high low so (y ∷ ys) are h = least_high low (lesser so y.low) ys are.1 (by (int_le so y.low))
  where
    by : (b : Bool) → negsuc 2147483647 ≤ℤ (if b then so else y.low)
    by true = h
    by false = are.0.low

greatest_low : (so : ℤ) (ys : List Label) → AreLabels ys → so ≤ℤ pos 4294967295 → greatest_from so ys ≤ℤ pos 4294967295
greatest_low so [] are h = h
greatest_low so (y ∷ ys) are h = greatest_low (greater so y.high) ys are.1 (by (int_le so y.high))
  where
    by : (b : Bool) → (if b then y.high else so) ≤ℤ pos 4294967295
    by true = are.0.high
    by false = h

pub record IsSpan (low high : ℤ) : Type 0 where
  pub low_small : negsuc 2147483647 ≤ℤ low
  pub order : low ≤ℤ high
  pub high_small : high ≤ℤ pos 4294967295

pub labels_span : (ls : List Label) → AreLabels ls → IsSpan (least_of ls) (greatest_of ls)
labels_span [] are = record {
  low_small = omega (arith, ints);
  order = omega (arith, ints);
  high_small =
      omega (arith, ints);
}
labels_span (x ∷ xs) are = record {
  low_small = least_high x.low x.low xs are.1 are.0.low;
  order = through (least_from x.low xs) x.low (greatest_from x.high xs) (least_is x.low xs).0
      (through x.low x.high (greatest_from x.high xs) are.0.order (greatest_is x.high xs).0);
  high_small = greatest_low x.high xs are.1 are.0.high;
}

-- ---- a value outside of the span has no label

abbrev NoLabel : ℤ → List Label → Type 0
NoLabel v [] = Unit {0}
NoLabel v (y ∷ ys) = (is_labelled v y ≡ false) × NoLabel v ys

below_low : (low v high least : ℤ) → v <ℤ least → least ≤ℤ low → is_between low v high ≡ false
below_low low v high least h g = grind (arith, h, g)

above_high : (low v high greatest : ℤ) → greatest <ℤ v → high ≤ℤ greatest → is_between low v high ≡ false
above_high low v high greatest h g = grind (arith, h, g)

none_below : (v least : ℤ) (ls : List Label) → v <ℤ least → AllFrom least ls → NoLabel v ls
none_below v least [] h all = tt
none_below v least (y ∷ ys) h all = (below_low y.low v y.high least h all.0, none_below v least ys h all.1)

none_above : (v greatest : ℤ) (ls : List Label) → greatest <ℤ v → AllTo greatest ls → NoLabel v ls
none_above v greatest [] h all = tt
none_above v greatest (y ∷ ys) h all = (above_high y.low v y.high greatest h all.0, none_above v greatest ys h all.1)

first_part : (v : ℤ) (xs ys : List Label) → NoLabel v (xs ++ ys) → NoLabel v xs
first_part v [] ys h = tt
first_part v (x ∷ xs) ys h = (h.0, first_part v xs ys h.1)

second_part : (v : ℤ) (xs ys : List Label) → NoLabel v (xs ++ ys) → NoLabel v ys
second_part v [] ys h = h
second_part v (x ∷ xs) ys h = second_part v xs ys h.1

no_any : (v : ℤ) (ls : List Label) → NoLabel v ls → list_any (is_labelled v) ls ≡ false
no_any v [] h = refl
no_any v (y ∷ ys) h = ap (λ (b : Bool). b || list_any (is_labelled v) ys) h.0 ∙ no_any v ys h.1

no_target : (v : ℤ) (xs : List code.Arm) → NoLabel v (all_labels xs) → target xs v ≡ length xs
no_target v [] h = refl
no_target v (x ∷ xs) h =
    ap (λ (b : Bool). if b then 0 else suc (target xs v)) (no_any v x.labels (first_part v x.labels (all_labels xs) h))
    ∙ ap suc (no_target v xs (second_part v x.labels (all_labels xs) h))

pub target_below : (v : ℤ) (xs : List code.Arm) → v <ℤ least_of (all_labels xs) → target xs v ≡ length xs
target_below v xs h = no_target v xs (none_below v (least_of (all_labels xs)) (all_labels xs) h
    (all_from (all_labels xs)))

pub target_above : (v : ℤ) (xs : List code.Arm) → greatest_of (all_labels xs) <ℤ v → target xs v ≡ length xs
target_above v xs h = no_target v xs (none_above v (greatest_of (all_labels xs)) (all_labels xs) h
    (all_to (all_labels xs)))

-- ---- the table

pub target_at : (xs : List code.Arm) (low : ℤ) (span k otherwise : ℕ) → k < span
    → slice_index_or (targets xs low span) k otherwise ≡ target xs (low +ℤ pos k)
target_at xs low span k otherwise h = get_or-map-range_with_len (λ (j : ℕ). target xs (low +ℤ pos j)) 0 span k k
    otherwise h (omega arith)
