-- The plan of a table for the arms of a CASE.
use Rattle.std.proofs.Common.{◌≡◌, ℕ, suc, ◌+◌, ◌-◌, ◌*◌, ◌≤◌, ◌<◌, ◌&&◌, ℤ, pos, negsuc, ◌≤ℤ◌, ◌<ℤ◌, Bool, true, false, List, [], ◌∷◌, ◌++◌, Option, Some, None, refl, sym, ap, ◌∙◌, subst, arith, add_assoc, add-zero}
use Rattle.std.specs.Prelude.{nat_le, unsigned_abs, ◌-ℤ◌, ◌+ℤ◌, MatchOption, if◌then◌else◌}
use Rattle.std.specs.Int.{w64, cast_unsigned}
use Rattle.std.proofs.lemmas.Int.{ints}
use Rattle.std.specs.List.{fold}
use Rattle.typed_tree.specs.declared.statement.Label.{Label}
use Rattle.def_scheme.specs.Steps.{lesser, greater, values_of, all_values, is_dense, least_of, span_of}
use Rattle.emit_stmt.specs.declared.plan.Bounds.{Bounds}
use Rattle.emit_stmt.specs.declared.plan.Plan.{Plan}
use Rattle.std.proofs.lemmas.List.FromFn.{map-range_with_len_more}
use Rattle.typed_tree.specs.declared.statement.TypedArm.{TypedArm}
use Rattle.emit_stmt.specs.Written.{target_in, targets_in}
use Rattle.emit_stmt.specs.Plans.{few, with_few, with_label, dense, plan_by}

few_both : (a b : ℕ) → few (few a + few b) ≡ few (a + b)
few_both a b = omega arith

values_are : (k : ℕ) (xs : List Label) → fold with_few (few k) xs ≡ few (k + all_values xs)
values_are k [] = ap few (sym (add-zero k))
values_are k (x ∷ xs) =
    ap (λ (n : ℕ). fold with_few n xs) (few_both k (values_of x)) ∙ values_are (k + values_of x) xs
    ∙ ap few (add_assoc k (values_of x) (all_values xs))

bounds_are : (b : Bounds) (xs : List Label)
    → fold with_label (Some b) xs ≡ Some (record {
      least = fold (λ so y. lesser so y.low) b.least xs;
      greatest =
          fold (λ so y. greater so y.high) b.greatest xs;
      values = fold with_few b.values xs;
    })
bounds_are b [] = refl
bounds_are b (x ∷ xs) = bounds_are (record
    { least = lesser b.least x.low; greatest = greater b.greatest x.high; values = with_few b.values x }) xs

same_bool : (a b : Bool) → (a ≡ true → b ≡ true) → (b ≡ true → a ≡ true) → a ≡ b
same_bool true true f g = refl
same_bool true false f g = sym (f refl)
same_bool false true f g = g refl
same_bool false false f g = refl

four : (v : ℕ) → nat_le 4 (few v) ≡ nat_le 4 v
four v = grind arith

wide : (g v : ℕ) → suc g ≤ 1024 → nat_le (suc g) (4 * few v) ≡ nat_le (suc g) (4 * v)
wide g v h = grind arith

narrow : (g v : ℕ) → (nat_le (suc g) 1024 && nat_le (suc g) (4 * few v))
    ≡ (nat_le (suc g) 1024 && nat_le (suc g) (4 * v))
narrow g v = grind (arith, wide)

dense_is : (n g v : ℕ) → dense n g (few v) ≡ dense n g v
dense_is n g v =
    ap (λ (b : Bool). nat_le n 16 && (b && (nat_le (suc g) 1024 && nat_le (suc g) (4 * few v)))) (four v)
    ∙ ap (λ (b : Bool). nat_le n 16 && (nat_le 4 v && b)) (narrow g v)

and_false : (b : Bool) → (b && false) ≡ false
and_false true = refl
and_false false = refl

abbrev IsPlan : ℕ → List Label → Option Plan → Type 0
IsPlan n ls r = MatchOption r (is_dense n ls ≡ false)
    (λ p. (is_dense n ls ≡ true) × (p.least ≡ least_of ls) × (p.span ≡ span_of ls))

chosen : (b : Bool) (n : ℕ) (ls : List Label) (p : Plan) → b ≡ is_dense n ls → p.least ≡ least_of ls
    → p.span ≡ span_of ls → IsPlan n ls (if b then Some p else None)
chosen true n ls p h e f = (sym h, e, f)
chosen false n ls p h e f = sym h

known : (n : ℕ) (ls : List Label) → IsPlan n ls (plan_by n (fold with_label None ls))
known n [] = and_false (nat_le n 16)
known n (x ∷ xs) =
    let b : Bounds = record { least = x.low; greatest = x.high; values = few (values_of x) } in
    let low = fold (λ so y. lesser so y.low) x.low xs in
    let high = fold (λ so y. greater so y.high) x.high xs in
    let gap = unsigned_abs (high -ℤ low) in
    let p : Plan = record { least = low; span = suc gap } in
    subst (λ (r : Option Bounds). IsPlan n (x ∷ xs) (plan_by n r)) (sym (bounds_are b xs))
    (chosen (dense n gap (fold with_few (few (values_of x)) xs)) n (x ∷ xs) p
    (ap (λ (v : ℕ). dense n gap v) (values_are (values_of x) xs) ∙ dense_is n gap (values_of x + all_values xs)) refl
    refl)

pub plan_is : (n : ℕ) (ls : List Label) (bounds : Option Bounds) (r : Option Plan) → bounds ≡ fold with_label None ls
    → r ≡ plan_by n bounds → IsPlan n ls r
plan_is n ls bounds r h k = subst (λ (r : Option Plan). IsPlan n ls r)
    (sym (k ∙ ap (λ (b : Option Bounds). plan_by n b) h)) (known n ls)

-- the table of targets, one by one
pub targets_more : (xs : List TypedArm) (low : ℤ) (n : ℕ)
    → targets_in xs low (n + 1) ≡ targets_in xs low n ++ target_in xs (low +ℤ pos n) ∷ []
targets_more xs low n = map-range_with_len_more (λ k. target_in xs (low +ℤ pos k)) 0 n n (omega arith)

-- ---- how far the greatest value of a label is from the least

up_case : (z : ℤ) → pos 0 ≤ℤ z → unsigned_abs z ≡ cast_unsigned w64 z
up_case (pos n) h = refl
up_case (negsuc n) h = absurd (omega (arith, ints, h))

pub width_up : (low high : ℤ) → low ≤ℤ high → unsigned_abs (high -ℤ low) ≡ cast_unsigned w64 (high -ℤ low)
width_up low high h = let l : pos 0 ≤ℤ (high -ℤ low) = omega (arith, ints, h) in up_case (high -ℤ low) l

down_case : (z : ℤ) → z <ℤ pos 0 → unsigned_abs z < 18446744073709551616
    → 18446744073709551615 - unsigned_abs z + 1 ≡ cast_unsigned w64 z
down_case (pos n) h l = absurd (omega (arith, ints, h))
down_case (negsuc n) h l = let k : suc n < 18446744073709551616 = l in omega (arith, k)

pub width_down : (low high : ℤ) → high <ℤ low → unsigned_abs (high -ℤ low) < 18446744073709551616
    → 18446744073709551615 - unsigned_abs (high -ℤ low) + 1 ≡ cast_unsigned w64 (high -ℤ low)
width_down low high h l = let k : (high -ℤ low) <ℤ pos 0 = omega (arith, ints, h) in down_case (high -ℤ low) k l
