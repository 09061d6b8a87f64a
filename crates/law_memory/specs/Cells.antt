-- What the compiled code does with the cell of a scalar: its numbers stand there lowest byte first.
use Rattle.std.specs.Prelude.{◌-◌, ℤ, option_map, ℕ, zero, suc, ◌+◌, ◌*◌, ◌%◌, ◌^◌, List, Option}
use Rattle.std.specs.Int.{w64, cast_unsigned}
use Rattle.wasm_tree.specs.declared.instr.Load.{Load}
use Rattle.wasm_tree.specs.declared.instr.Load.TheVariants as load
use Rattle.wasm_tree.specs.declared.instr.StoreWidth.TheVariants as width
use Rattle.wasm_tree.specs.Numbers.{load_size, load_number, store_bytes}
use Rattle.wasm_tree.specs.Machine.{bytes_at, paste_items}
use Rattle.law_effect.specs.Bytes.{byte}
use Rattle.layout_storage.specs.Types.{Scalar, Natural, Integer, Between, Callable}
use Rattle.layout_storage.specs.Sizes.{Room, One, Two, Four, room_of}

-- the number in k bytes from place a on
unfoldable pub number : (k a : ℕ) → List ℕ → ℕ
number zero a m = 0
number (suc k) a m = byte a m + 256 * number k (a + 1) m

-- the bytes that a number is stored as in this room
abbrev pub stored_in : Room → ℕ → List ℕ
stored_in One n = store_bytes width.One n
stored_in Two n = store_bytes width.Two n
stored_in Four n = store_bytes width.Four n

-- the operand that stands for a number
abbrev pub word : ℤ → ℕ
word v = cast_unsigned w64 v

abbrev pub unsigned_load : Room → Load
unsigned_load One = load.I64From8U
unsigned_load Two = load.I64From16U
unsigned_load Four = load.I64From32U

abbrev pub load_of : Scalar → Load
load_of (Natural g) = unsigned_load (room_of (Natural g))
load_of Integer = load.I64From32S
load_of (Between l g) = unsigned_load (room_of (Between l g))
load_of (Callable h) = unsigned_load (room_of (Callable h))

-- the lower bound is added behind the load and taken off before the store
abbrev pub raise_cell : Scalar → ℕ → ℕ
raise_cell (Natural g) n = n
raise_cell Integer n = n
raise_cell (Between l g) n = (n + word l) % 2 ^ 64
raise_cell (Callable h) n = n

abbrev pub lower_cell : Scalar → ℕ → ℕ
lower_cell (Natural g) n = n
lower_cell Integer n = n
lower_cell (Between l g) n = (n + (2 ^ 64 - word l)) % 2 ^ 64
lower_cell (Callable h) n = n

-- the operand that is loaded from place a, if it is there
abbrev pub fetch_cell : Scalar → ℕ → List ℕ → Option ℕ
fetch_cell c a m =
    option_map (λ bytes. raise_cell c (load_number (load_of c) bytes))
    (bytes_at (load_size (load_of c)) a m)

-- the memory with this operand stored at place a
abbrev pub put : Scalar → ℕ → ℕ → List ℕ → List ℕ
put c a n m = paste_items m a (stored_in (room_of c) (lower_cell c n))
