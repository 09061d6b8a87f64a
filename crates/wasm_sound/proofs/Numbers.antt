-- What instructions on numbers make fits.
use Rattle.std.proofs.Common.{◌≡◌, ◌⊎◌, inl, inr, ℕ, zero, suc, ◌/◌, ◌%◌, ◌^◌, ◌<◌, ◌≤◌, Bool, true, false, List, length, get_or, Option, Some, None, arith}
use Rattle.std.specs.Prelude.{All, slice_index, ℤ, pos, negsuc, int_div, int_rem, neg_ℤ, ◌==◌, if◌then◌else◌}
use Rattle.std.specs.Int.{w32, w64, cast_signed, cast_unsigned, from_le_bytes, byte_at, bytes_low_first}
use Rattle.std.proofs.lemmas.Bool.{cases_lt, lt-ltb, lt-leb}
use Rattle.std.proofs.lemmas.List.{get_or_past}
use Rattle.std.proofs.lemmas.List.Elements.{All-nil, All-cons}
use Rattle.std.proofs.lemmas.Nat.{and_le_l, or_lt, xor_lt}
use Rattle.wasm_tree.specs.declared.instr.Operation.{Operation}
use Rattle.wasm_tree.specs.declared.instr.Operation.TheVariants.{Add, Sub, Mul, DivS, DivU, RemS, RemU, And, Or, Xor, Shl, ShrU}
use Rattle.wasm_tree.specs.declared.instr.Load.{Load}
use Rattle.wasm_tree.specs.declared.instr.Load.TheVariants as load
use Rattle.wasm_tree.specs.declared.instr.StoreWidth.{StoreWidth}
use Rattle.wasm_tree.specs.declared.instr.StoreWidth.TheVariants.{Eight, One, Two, Four}
use Rattle.wasm_tree.specs.Numbers.{truth, division_of, is_too_great, operation_result, extend_number, load_number, store_bytes}
use Rattle.wasm_sound.specs.Ranges.{IsByte}

pub truth_fits : (b : Bool) → truth b < 2 ^ 32
truth_fits true = omega arith
truth_fits false = omega arith

-- a number with a sign that is of at most 63 bits
abbrev Small : ℤ → Type 0
Small (pos n) = n ≤ 2 ^ 63
Small (negsuc n) = suc n ≤ 2 ^ 63

unsigned_fits : (z : ℤ) → Small z → cast_unsigned w64 z < 2 ^ 64
unsigned_fits (pos n) h = omega arith
unsigned_fits (negsuc n) h = omega arith

neg_small : (k : ℕ) → k ≤ 2 ^ 63 → Small (neg_ℤ (pos k))
neg_small zero h = omega arith
neg_small (suc k) h = h

signed_small : (n : ℕ) → n < 2 ^ 64 → Small (cast_signed w64 n)
signed_small n h = go (cases_lt n (2 ^ 63))
  where
    go : (n < 2 ^ 63) ⊎ (2 ^ 63 ≤ n) → Small (cast_signed w64 n)
    go (inl less) = rw (lt-ltb n (2 ^ 63) less) (omega arith)
    go (inr more) = rw (lt-leb (suc n) (2 ^ 63) (omega arith)) (omega arith)

signed_32_small : (n : ℕ) → n < 2 ^ 32 → Small (cast_signed w32 n)
signed_32_small n h = go (cases_lt n (2 ^ 31))
  where
    go : (n < 2 ^ 31) ⊎ (2 ^ 31 ≤ n) → Small (cast_signed w32 n)
    go (inl less) = rw (lt-ltb n (2 ^ 31) less) (omega arith)
    go (inr more) = rw (lt-leb (suc n) (2 ^ 31) (omega arith)) (omega arith)

quotient_small : (x y : ℤ) → Small x → Small (int_div x y)
quotient_small (pos n) (pos m) h = omega arith
quotient_small (pos n) (negsuc m) h = neg_small (n / suc m) (omega arith)
quotient_small (negsuc n) (pos m) h = neg_small (suc n / m) (omega arith)
quotient_small (negsuc n) (negsuc m) h = omega arith

remainder_small : (x y : ℤ) → Small x → Small (int_rem x y)
remainder_small (pos n) (pos m) h = omega arith
remainder_small (pos n) (negsuc m) h = omega arith
remainder_small (negsuc n) (pos m) h = neg_small (suc n % m) (omega arith)
remainder_small (negsuc n) (negsuc m) h = neg_small (suc n % suc m) (omega arith)

pub extended_fits : (n : ℕ) → n < 2 ^ 32 → extend_number n < 2 ^ 64
extended_fits n h = unsigned_fits (cast_signed w32 n) (signed_32_small n h)

-- ---- operations

-- a number that is there fits
abbrev pub MayFit : Option ℕ → Type 0
MayFit None = Unit {0}
MayFit (Some n) = n < 2 ^ 64

if_fits : (b : Bool) (o p : Option ℕ) → MayFit o → MayFit p → MayFit (if b then o else p)
if_fits true o p h g = h
if_fits false o p h g = g

divided_fits : (d n : ℕ) → n < 2 ^ 64 → MayFit (division_of d n)
divided_fits d n h = if_fits (d == 0) None (Some n) tt h

pub operated_fits : (o : Operation) (n m : ℕ) → n < 2 ^ 64 → m < 2 ^ 64 → MayFit (operation_result o n m)
operated_fits Add n m h g = omega arith
operated_fits Sub n m h g = omega arith
operated_fits Mul n m h g = omega arith
operated_fits DivS n m h g =
    if_fits (is_too_great n m) None (division_of m
    (cast_unsigned w64 (int_div (cast_signed w64 n) (cast_signed w64 m)))) tt
    (divided_fits m (cast_unsigned w64 (int_div (cast_signed w64 n) (cast_signed w64 m)))
    (unsigned_fits (int_div (cast_signed w64 n) (cast_signed w64 m))
    (quotient_small (cast_signed w64 n) (cast_signed w64 m) (signed_small n h))))
operated_fits DivU n m h g = divided_fits m (n / m) (omega arith)
operated_fits RemS n m h g =
    divided_fits m (cast_unsigned w64 (int_rem (cast_signed w64 n) (cast_signed w64 m)))
    (unsigned_fits (int_rem (cast_signed w64 n) (cast_signed w64 m))
    (remainder_small (cast_signed w64 n) (cast_signed w64 m) (signed_small n h)))
operated_fits RemU n m h g = divided_fits m (n % m) (omega arith)
operated_fits And n m h g = omega (arith, and_le_l n m)
operated_fits Or n m h g = or_lt 64 n m h g
operated_fits Xor n m h g = xor_lt 64 n m h g
operated_fits Shl n m h g = omega arith
operated_fits ShrU n m h g = omega arith

-- ---- bytes

bytes_below : (bytes : List ℕ) (i : ℕ) → All IsByte bytes → slice_index bytes i < 2 ^ 8
bytes_below bytes i h = go (cases_lt i (length bytes))
  where
    go : (i < length bytes) ⊎ (length bytes ≤ i) → slice_index bytes i < 2 ^ 8
    go (inl less) = h i 0 less
    go (inr more) =
        let zero_is : get_or bytes i 0 ≡ 0 = get_or_past bytes i 0 more in
        omega (arith, zero_is)

pub loaded_fits : (kind : Load) (bytes : List ℕ) → All IsByte bytes → load_number kind bytes < 2 ^ 64
loaded_fits load.I64 bytes h =
    omega (
      arith,
      bytes_below bytes 0 h,
      bytes_below bytes 1 h,
      bytes_below bytes 2 h,
      bytes_below bytes 3 h,
      bytes_below bytes 4 h,
      bytes_below bytes 5 h,
      bytes_below bytes 6 h,
      bytes_below bytes 7 h,
    )
loaded_fits load.I64From8U bytes h = omega (arith, bytes_below bytes 0 h)
loaded_fits load.I64From16U bytes h = omega (arith, bytes_below bytes 0 h, bytes_below bytes 1 h)
loaded_fits load.I64From32S bytes h = extended_fits (from_le_bytes w32 bytes)
    (omega (arith, bytes_below bytes 0 h, bytes_below bytes 1 h, bytes_below bytes 2 h, bytes_below bytes 3 h))
loaded_fits load.I64From32U bytes h = omega
    (arith, bytes_below bytes 0 h, bytes_below bytes 1 h, bytes_below bytes 2 h, bytes_below bytes 3 h)

byte_fits : (i n : ℕ) → byte_at i n < 2 ^ 8
byte_fits zero n = omega arith
byte_fits (suc i) n = omega arith

low_bytes_fit : (i k n : ℕ) → All IsByte (bytes_low_first i k n)
low_bytes_fit i zero n = All-nil IsByte
low_bytes_fit i (suc k) n = All-cons IsByte (byte_at i n) (bytes_low_first (suc i) k n) (byte_fits i n)
    (low_bytes_fit (suc i) k n)

pub stored_fits : (width : StoreWidth) (n : ℕ) → All IsByte (store_bytes width n)
stored_fits Eight n = low_bytes_fit 0 8 n
stored_fits One n = low_bytes_fit 0 1 (n % 2 ^ 8)
stored_fits Two n = low_bytes_fit 0 2 (n % 2 ^ 16)
stored_fits Four n = low_bytes_fit 0 4 (n % 2 ^ 32)
