-- Numbers, given by their bits, and what instructions make of them (Core 1.0, section 4.3).
use Rattle.std.specs.Prelude.{ℕ, ◌+◌, ◌-◌, ◌*◌, ◌/◌, ◌%◌, ◌^◌, Bool, not, ◌&&◌, ◌==◌, nat_lt, nat_le, int_lt, int_le, int_div, int_rem, bit_and, bit_or, bit_xor, List, Option, Some, None, if◌then◌else◌}
use Rattle.std.specs.Int.{Width, w8, w16, w32, w64, cast_signed, cast_unsigned, from_le_bytes, to_le_bytes}
use Rattle.wasm_tree.specs.declared.instr.Relation.{Relation}
use Rattle.wasm_tree.specs.declared.instr.Relation.TheVariants.{Eq, Ne, LtS, LtU, GtS, GtU, LeS, LeU, GeS, GeU}
use Rattle.wasm_tree.specs.declared.instr.Operation.{Operation}
use Rattle.wasm_tree.specs.declared.instr.Operation.TheVariants.{Add, Sub, Mul, DivS, DivU, RemS, RemU, And, Or, Xor, Shl, ShrU}
use Rattle.wasm_tree.specs.declared.instr.Load.{Load}
use Rattle.wasm_tree.specs.declared.instr.Load.TheVariants as load
use Rattle.wasm_tree.specs.declared.instr.StoreWidth.{StoreWidth}
use Rattle.wasm_tree.specs.declared.instr.StoreWidth.TheVariants.{Eight, One, Two, Four}

-- 1 if it holds, else 0
abbrev pub truth : Bool → ℕ
truth b = if b then 1 else 0

abbrev pub is_less : Width → (n m : ℕ) → Bool
is_less w n m = int_lt (cast_signed w n) (cast_signed w m)

abbrev pub is_at_most : Width → (n m : ℕ) → Bool
is_at_most w n m = int_le (cast_signed w n) (cast_signed w m)

-- the first compares so with the second, as numbers of this width
abbrev pub compares : Width → Relation → (n m : ℕ) → Bool
compares w Eq n m = n == m
compares w Ne n m = not (n == m)
compares w LtS n m = is_less w n m
compares w LtU n m = nat_lt n m
compares w GtS n m = is_less w m n
compares w GtU n m = nat_lt m n
compares w LeS n m = is_at_most w n m
compares w LeU n m = nat_le n m
compares w GeS n m = is_at_most w m n
compares w GeU n m = nat_le m n

-- by a divisor that is not 0
abbrev pub division_of : (divisor result : ℕ) → Option ℕ
division_of divisor result = if divisor == 0 then None else Some result

-- the least number of 64 bits by -1 has a quotient that is no number of 64 bits
abbrev pub is_too_great : (n m : ℕ) → Bool
is_too_great n m = (n == 2 ^ 63) && (m == 2 ^ 64 - 1)

-- what is made of two numbers of 64 bits, if it is defined
abbrev pub operation_result : Operation → (n m : ℕ) → Option ℕ
operation_result Add n m = Some ((n + m) % 2 ^ 64)
operation_result Sub n m = Some ((n + (2 ^ 64 - m)) % 2 ^ 64)
operation_result Mul n m = Some (n * m % 2 ^ 64)
operation_result DivS n m =
    if is_too_great n m
    then None
    else division_of m (cast_unsigned w64 (int_div (cast_signed w64 n) (cast_signed w64 m)))
operation_result DivU n m = division_of m (n / m)
operation_result RemS n m =
    division_of m (cast_unsigned w64 (int_rem (cast_signed w64 n) (cast_signed w64 m)))
operation_result RemU n m = division_of m (n % m)
operation_result And n m = Some (bit_and n m)
operation_result Or n m = Some (bit_or n m)
operation_result Xor n m = Some (bit_xor n m)
operation_result Shl n m = Some (n * 2 ^ (m % 64) % 2 ^ 64)
operation_result ShrU n m = Some (n / 2 ^ (m % 64))

-- a number of 32 bits as one of 64, by its sign
abbrev pub extend_number : ℕ → ℕ
extend_number n = cast_unsigned w64 (cast_signed w32 n)

-- ---- numbers in bytes, the lowest first (4.3.1)

abbrev pub load_size : Load → ℕ
load_size load.I64 = 8
load_size load.I64From8U = 1
load_size load.I64From16U = 2
load_size load.I64From32S = 4
load_size load.I64From32U = 4

-- the number that these bytes are loaded as
abbrev pub load_number : Load → List ℕ → ℕ
load_number load.I64 bytes = from_le_bytes w64 bytes
load_number load.I64From8U bytes = from_le_bytes w8 bytes
load_number load.I64From16U bytes = from_le_bytes w16 bytes
load_number load.I64From32S bytes = extend_number (from_le_bytes w32 bytes)
load_number load.I64From32U bytes = from_le_bytes w32 bytes

-- the bytes that a number is stored as
abbrev pub store_bytes : StoreWidth → ℕ → List ℕ
store_bytes Eight n = to_le_bytes w64 n
store_bytes One n = to_le_bytes w8 (n % 2 ^ 8)
store_bytes Two n = to_le_bytes w16 (n % 2 ^ 16)
store_bytes Four n = to_le_bytes w32 (n % 2 ^ 32)
