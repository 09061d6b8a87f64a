-- The sizes of types, and the offsets of their components.
use Rattle.std.specs.Prelude.{ℕ, zero, suc, ◌+◌, ◌*◌, ◌^◌, ℤ, pos, ◌+ℤ◌, ◌-ℤ◌, unsigned_abs, nat_lt, List, [], ◌∷◌, if◌then◌else◌}
use Rattle.std.specs.Int.{w32, cast_signed}
use Rattle.layout_storage.specs.Types.{Ty, Scalar, Natural, Integer, Between, Callable, Cell, Hidden, Array, Nothing, Field}

pub data Room : Type 0 where
  One : Room
  Two : Room
  Four : Room

-- the least room for numbers from 0 to this one
abbrev pub room_for : ℕ → Room
room_for g = if nat_lt g (2 ^ 8) then One else (if nat_lt g (2 ^ 16) then Two else Four)

abbrev pub bytes_in : Room → ℕ
bytes_in One = 1
bytes_in Two = 2
bytes_in Four = 4

-- of a subrange the difference to its lower bound is kept
abbrev pub room_of : Scalar → Room
room_of (Natural g) = room_for g
room_of Integer = Four
room_of (Between l g) = room_for (unsigned_abs (g -ℤ l))
room_of (Callable h) = Four

abbrev pub width : Scalar → ℕ
width c = bytes_in (room_of c)

-- what the number in a cell stands for
abbrev pub value_of : Scalar → ℕ → ℤ
value_of (Natural g) n = pos n
value_of Integer n = cast_signed w32 n
value_of (Between l g) n = l +ℤ pos n
value_of (Callable h) n = pos n

unfoldable pub size : Ty → ℕ
size (Cell c) = width c
size (Hidden n) = n
size (Array n t) = n * size t
size Nothing = 0
size (Field t others) = size t + size others

unfoldable pub offset : Ty → List ℕ → ℕ
offset t [] = 0
offset (Cell c) (i ∷ p) = 0
offset (Hidden n) (i ∷ p) = 0
offset (Array n t) (i ∷ p) = i * size t + offset t p
offset Nothing (i ∷ p) = 0
offset (Field t others) (zero ∷ p) = offset t p
offset (Field t others) (suc i ∷ p) = size t + offset others (i ∷ p)

-- the bytes of a page of memory
abbrev pub page_size : ℕ
page_size = 65536
