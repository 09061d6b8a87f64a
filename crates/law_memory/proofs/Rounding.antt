-- The quotient that div leaves is rounded down, and the remainder that mod leaves is from 0 up.
use Rattle.std.proofs.Common.{◌≡◌, ℕ, zero, suc, ◌+◌, ◌-◌, ◌*◌, ◌/◌, ◌%◌, ◌^◌, ◌<◌, ◌≤◌, ℤ, pos, negsuc, ◌+ℤ◌, ◌*ℤ◌, ◌≤ℤ◌, ◌<ℤ◌, Bool, true, false, if◌then◌else◌, refl, sym, ap, ap₂, ◌∙◌, subst, arith}
use Rattle.std.specs.Prelude.{int_div, int_rem, int_lt, FitsSigned, unsigned_abs}
use Rattle.std.specs.Int.{w64, cast_signed, cast_unsigned}
use Rattle.std.proofs.lemmas.Int.{ints, to_z-of_z, fits_signed_from_abs, quot-rem, rem_below}
use Rattle.std.proofs.lemmas.Bool.{lt-ltb, le-ltb}
use native.Mathlib.Nat.{div-add-mod', div-le_self, mod-lt}
use lib.IntN.{neg_ℤ}
use Rattle.wasm_tree.specs.Numbers.{truth, is_less}
use Rattle.law_memory.specs.Called.{remainder, is_below_zero, divided_down, modulo, Divides, DividesDown}

abbrev word : ℤ → ℕ
word v = cast_unsigned w64 v

-- what is left of the words
abbrev quotient_word : (q : ℤ) (below : Bool) → ℕ
quotient_word q below = (word q + (2 ^ 64 - truth below)) % 2 ^ 64

abbrev remainder_word : (r y : ℤ) (below : Bool) → ℕ
remainder_word r y below = (word r + truth below * word y % 2 ^ 64) % 2 ^ 64

not_below : (n : ℕ) → int_lt (pos n) (pos 0) ≡ false
not_below n = le-ltb n 0 (omega arith)

-- ---- the words stand for numbers

fits : (v : ℤ) → negsuc (2 ^ 63 - 1) ≤ℤ v → v ≤ℤ pos (2 ^ 63 - 1) → cast_signed w64 (word v) ≡ v
fits (pos n) l h = to_z-of_z w64 (pos n) (fits_signed_from_abs w64 (pos n) (omega (arith, ints)))
fits (negsuc n) l h = to_z-of_z w64 (negsuc n) (record { sfits = omega (arith, ints) })

same_word : (q : ℤ) → negsuc (2 ^ 62) ≤ℤ q → q ≤ℤ pos (2 ^ 62) → quotient_word q false ≡ word q
same_word (pos n) l h = omega (arith, ints)
same_word (negsuc n) l h = omega (arith, ints)

one_less : (q : ℤ) → negsuc (2 ^ 62) ≤ℤ q → q ≤ℤ pos (2 ^ 62) → quotient_word q true ≡ word (q +ℤ negsuc 0)
one_less (pos zero) l h = omega (arith, ints)
one_less (pos (suc n)) l h = omega (arith, ints)
one_less (negsuc n) l h = omega (arith, ints)

same_rest : (r y : ℤ) → pos 0 ≤ℤ r → r ≤ℤ pos 4294967295 → remainder_word r y false ≡ word r
same_rest r y l h = omega (arith, ints)

more_rest : (r y : ℤ) → negsuc 4294967295 ≤ℤ r → r <ℤ pos 0 → pos 0 ≤ℤ (r +ℤ y) → y ≤ℤ pos 4294967295
    → remainder_word r y true ≡ word (r +ℤ y)
more_rest r y l h near small = omega (arith, ints)

-- ---- a quotient and a remainder towards 0, where the remainder is not below 0 and where it is

even : (x y q r : ℤ) → q *ℤ y +ℤ r ≡ x → negsuc (2 ^ 62) ≤ℤ q → q ≤ℤ pos (2 ^ 62) → pos 0 ≤ℤ r → r <ℤ y
    → y ≤ℤ pos 4294967295
    → Divides x y (cast_signed w64 (quotient_word q false)) (cast_signed w64 (remainder_word r y false))
even x y q r e lq hq lr hr hy =
    let a : cast_signed w64 (quotient_word q false) ≡ q = ap (cast_signed w64) (same_word q lq hq)
    ∙ fits q (omega (arith, ints)) (omega (arith, ints)) in
    let b : cast_signed w64 (remainder_word r y false) ≡ r =
    ap (cast_signed w64) (same_rest r y lr (omega (arith, ints)))
    ∙ fits r (omega (arith, ints)) (omega (arith, ints)) in
    subst (λ (p : ℤ). Divides x y p (cast_signed w64 (remainder_word r y false))) (sym a)
    (subst (λ (p : ℤ). Divides x y q p) (sym b) (record { sum = sym e; least = lr; below = hr }))

odd : (x y q r : ℤ) → (x ≡ (q +ℤ negsuc 0) *ℤ y +ℤ (r +ℤ y)) → negsuc (2 ^ 62) ≤ℤ q → q ≤ℤ pos (2 ^ 62)
    → negsuc 4294967295 ≤ℤ r → r <ℤ pos 0 → pos 0 ≤ℤ (r +ℤ y) → y ≤ℤ pos 4294967295
    → Divides x y (cast_signed w64 (quotient_word q true)) (cast_signed w64 (remainder_word r y true))
odd x y q r e lq hq lr hr near hy =
    let a : cast_signed w64 (quotient_word q true) ≡ q +ℤ negsuc 0 = ap (cast_signed w64) (one_less q lq hq)
    ∙ fits (q +ℤ negsuc 0) (omega (arith, ints)) (omega (arith, ints)) in
    let b : cast_signed w64 (remainder_word r y true) ≡ r +ℤ y = ap (cast_signed w64) (more_rest r y lr hr near hy)
    ∙ fits (r +ℤ y) (omega (arith, ints)) (omega (arith, ints)) in
    let less : (r +ℤ y) <ℤ y = omega (arith, ints) in
    subst (λ (p : ℤ). Divides x y p (cast_signed w64 (remainder_word r y true))) (sym a)
    (subst (λ (p : ℤ). Divides x y (q +ℤ negsuc 0) p) (sym b) (record { sum = e; least = near; below = less }))

-- ---- what the code computes

module _ (x y : ℤ) (fx : cast_signed w64 (word x) ≡ x) (fy : cast_signed w64 (word y) ≡ y)
    (fr : cast_signed w64 (word (int_rem x y)) ≡ int_rem x y) (b : Bool) (is : int_lt (int_rem x y) (pos 0) ≡ b) where
  abbrev below_of : ℤ → Bool
  below_of r = int_lt (cast_signed w64 (word r)) (pos 0)

  below_is : below_of (int_rem x y) ≡ b
  below_is = ap (λ (r : ℤ). int_lt r (pos 0)) fr ∙ is

  down : divided_down (word x) (word y) ≡ quotient_word (int_div x y) b
  down =
      ap₂ (λ (u v : ℤ). quotient_word (int_div u v) (below_of (int_rem u v))) fx fy
      ∙ ap (λ (c : Bool). quotient_word (int_div x y) c) below_is

  rest : modulo (word x) (word y) ≡ remainder_word (int_rem x y) y b
  rest =
      ap₂ (λ (u v : ℤ). remainder_word (int_rem u v) y (below_of (int_rem u v))) fx fy
      ∙ ap (λ (c : Bool). remainder_word (int_rem x y) y c) below_is

  with_parts : Divides x y (cast_signed w64 (quotient_word (int_div x y) b))
      (cast_signed w64 (remainder_word (int_rem x y) y b))
      → Divides x y (cast_signed w64 (divided_down (word x) (word y))) (cast_signed w64 (modulo (word x) (word y)))
  with_parts d =
      subst (λ (n : ℕ). Divides x y (cast_signed w64 n) (cast_signed w64 (modulo (word x) (word y)))) (sym down)
      (subst (λ (n : ℕ). Divides x y (cast_signed w64 (quotient_word (int_div x y) b)) (cast_signed w64 n)) (sym rest)
      d)

below_one_less : (k b m a : ℕ) → k * suc b + suc m ≡ suc a
    → negsuc a ≡ (neg_ℤ (pos k) +ℤ negsuc 0) *ℤ pos (suc b) +ℤ (negsuc m +ℤ pos (suc b))
below_one_less zero b m a e = omega (arith, ints)
below_one_less (suc k) b m a e = omega (arith, ints)

pub divides_down : DividesDown
divides_down x (negsuc b) lx hx ly hy = absurd (omega (arith, ints))
divides_down x (pos zero) lx hx ly hy = absurd (omega (arith, ints))
divides_down (pos a) (pos (suc b)) lx hx ly hy =
    let zero_less : 0 < suc b = omega arith in
    let small : a % suc b < suc b = mod-lt a zero_less in
    let less = div-le_self a (suc b) in
    let fx = fits (pos a) (omega (arith, ints)) (omega (arith, ints)) in
    let fy = fits (pos (suc b)) (omega (arith, ints)) (omega (arith, ints)) in
    let fr = fits (pos (a % suc b)) (omega (arith, ints)) (omega (arith, ints)) in
    with_parts (pos a) (pos (suc b)) fx fy fr false (not_below (a % suc b))
    (even (pos a) (pos (suc b)) (pos (a / suc b)) (pos (a % suc b)) (quot-rem (pos a) (pos (suc b)))
    (omega (arith, ints)) (omega (arith, ints)) (omega (arith, ints)) (omega (arith, ints)) hy)
divides_down (negsuc a) (pos (suc b)) lx hx ly hy = by (suc a % suc b) refl
  where
    fx : cast_signed w64 (word (negsuc a)) ≡ negsuc a
    fx = fits (negsuc a) (omega (arith, ints)) (omega (arith, ints))

    fy : cast_signed w64 (word (pos (suc b))) ≡ pos (suc b)
    fy = fits (pos (suc b)) (omega (arith, ints)) (omega (arith, ints))

    by : (m : ℕ) → suc a % suc b ≡ m → Divides (negsuc a) (pos (suc b))
        (cast_signed w64 (divided_down (word (negsuc a)) (word (pos (suc b)))))
        (cast_signed w64 (modulo (word (negsuc a)) (word (pos (suc b)))))
    by zero e =
        let r : int_rem (negsuc a) (pos (suc b)) ≡ pos 0 = ap (λ (n : ℕ). neg_ℤ (pos n)) e in
        let less = div-le_self (suc a) (suc b) in
        let sum : neg_ℤ (pos (suc a / suc b)) *ℤ pos (suc b) +ℤ pos 0 ≡ negsuc a =
        ap (λ (v : ℤ). neg_ℤ (pos (suc a / suc b)) *ℤ pos (suc b) +ℤ v) (sym r)
        ∙ quot-rem (negsuc a) (pos (suc b)) in
        let fr = ap (λ (v : ℤ). cast_signed w64 (word v)) r ∙ fits (pos 0) (omega (arith, ints)) (omega (arith, ints))
        ∙ sym r in
        with_parts (negsuc a) (pos (suc b)) fx fy fr false (ap (λ (v : ℤ). int_lt v (pos 0)) r ∙ not_below 0)
        (subst (λ (v : ℤ). Divides (negsuc a) (pos (suc b))
        (cast_signed w64 (quotient_word (neg_ℤ (pos (suc a / suc b))) false))
        (cast_signed w64 (remainder_word v (pos (suc b)) false))) (sym r)
        (even (negsuc a) (pos (suc b)) (neg_ℤ (pos (suc a / suc b))) (pos 0) sum (omega (arith, ints))
        (omega (arith, ints)) (omega (arith, ints)) (omega (arith, ints)) hy))
    by (suc m) e =
        let zero_less : 0 < suc b = omega arith in
        let small : suc a % suc b < suc b = mod-lt (suc a) zero_less in
        let less = div-le_self (suc a) (suc b) in
        let split = div-add-mod' (suc a) (suc b) in
        let r : int_rem (negsuc a) (pos (suc b)) ≡ negsuc m = ap (λ (n : ℕ). neg_ℤ (pos n)) e in
        let sum = below_one_less (suc a / suc b) b m a (omega (arith, split, e)) in
        let fr = ap (λ (v : ℤ). cast_signed w64 (word v)) r
        ∙ fits (negsuc m) (omega (arith, ints, small, e)) (omega (arith, ints)) ∙ sym r in
        with_parts (negsuc a) (pos (suc b)) fx fy fr true (ap (λ (v : ℤ). int_lt v (pos 0)) r)
        (subst (λ (v : ℤ). Divides (negsuc a) (pos (suc b))
        (cast_signed w64 (quotient_word (neg_ℤ (pos (suc a / suc b))) true))
        (cast_signed w64 (remainder_word v (pos (suc b)) true))) (sym r)
        (odd (negsuc a) (pos (suc b)) (neg_ℤ (pos (suc a / suc b))) (negsuc m) sum (omega (arith, ints))
        (omega (arith, ints)) (omega (arith, ints, small, e)) (omega (arith, ints)) (omega (arith, ints, small, e))
        hy))
