-- Values by their bits alone.
use Rattle.std.specs.Prelude.{ℕ, ◌-◌, ◌%◌, ◌^◌, List, length, slice_index_or}
use Rattle.wasm_tree.specs.declared.store.Value.{Value}
use Rattle.wasm_tree.specs.declared.store.Value.TheVariants.{I32, I64}

-- the number that stands in the value's cell
abbrev pub bits_of : Value → ℕ
bits_of (I32 n) = n
bits_of (I64 n) = n

-- the value, with no more bits than its kind has
abbrev pub cut : Value → Value
cut (I32 n) = I32 (n % 2 ^ 32)
cut (I64 n) = I64 (n % 2 ^ 64)

-- the value at a place
abbrev pub value_at : List Value → ℕ → Value
value_at values place = slice_index_or values place (I32 0)

abbrev pub last_of : List Value → Value
last_of values = value_at values (length values - 1)
