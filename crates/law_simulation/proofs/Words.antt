-- The operands that stand for numbers.
use Rattle.std.proofs.Common.{◌≡◌, ◌+◌, ◌-◌, ◌%◌, ◌^◌, ◌<◌, ℤ, pos, negsuc, ◌+ℤ◌, ◌-ℤ◌, ◌≤ℤ◌, ◌<ℤ◌, true, false, not, ap₂, arith}
use Rattle.std.specs.Prelude.{FitsSigned, int_lt, int_le, ◌&&◌}
use Rattle.std.specs.Int.{w64, cast_signed}
use Rattle.std.proofs.lemmas.Int.{ints, to_z-of_z}
use lib.Signed.{mag}
use Rattle.wasm_tree.specs.Numbers.{is_less}
use Rattle.def_meaning.specs.Operators.{is_between}
use Rattle.law_simulation.specs.Scene.{word}

-- numbers of 64 bits with a sign
pub record IsWide (v : ℤ) : Type 0 where
  pub low : negsuc 9223372036854775807 ≤ℤ v
  pub high : v ≤ℤ pos 9223372036854775807

mag_wide : (v : ℤ) → negsuc 9223372036854775807 ≤ℤ v → v ≤ℤ pos 9223372036854775807 → mag v < 2 ^ 63
mag_wide (pos n) l h = omega (arith, ints)
mag_wide (negsuc n) l h = omega (arith, ints)

pub fits_wide : (v : ℤ) → IsWide v → FitsSigned w64 v
fits_wide v h = record { sfits = mag_wide v h.low h.high }

pub signed : (v : ℤ) → IsWide v → cast_signed w64 (word v) ≡ v
signed v h = to_z-of_z w64 v (fits_wide v h)

pub word_small : (v : ℤ) → IsWide v → word v < 2 ^ 64
word_small v h = let l = h.low in let t = h.high in omega (arith, ints)

pub less_is : (x y : ℤ) → IsWide x → IsWide y → is_less w64 (word x) (word y) ≡ int_lt x y
less_is x y hx hy = ap₂ int_lt (signed x hx) (signed y hy)

-- ---- tests of numbers

pub from_le : (x y : ℤ) → int_le x y ≡ true → x ≤ℤ y
from_le x y e = grind (arith, e)

pub less_true : (x y : ℤ) → x <ℤ y → int_lt x y ≡ true
less_true x y h = grind (arith, h)

pub above_between : (low v high : ℤ) → high <ℤ v → is_between low v high ≡ false
above_between low v high h = grind (arith, h)

pub not_le : (x y : ℤ) → int_le x y ≡ false → y <ℤ x
not_le x y e = grind (arith, e)

pub not_less : (x y : ℤ) → int_lt x y ≡ false → y ≤ℤ x
not_less x y e = grind (arith, e)

pub between_is : (low v high : ℤ) → is_between low v high ≡ (not (int_lt v low) && not (int_lt high v))
between_is low v high = grind arith

-- ---- sums, differences and products

pub sum_word : (x y : ℤ) → IsWide x → IsWide y → IsWide (x +ℤ y) → (word x + word y) % 2 ^ 64 ≡ word (x +ℤ y)
sum_word x y hx hy h = omega (arith, ints)

pub difference_word : (x y : ℤ) → IsWide x → IsWide y → IsWide (x -ℤ y)
    → (word x + (2 ^ 64 - word y)) % 2 ^ 64 ≡ word (x -ℤ y)
difference_word x y hx hy h = omega (arith, ints)
