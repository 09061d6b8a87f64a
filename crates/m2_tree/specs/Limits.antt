-- Limits of what a program may have.
use Rattle.std.specs.Prelude.{ℕ}

-- the characters of a name
abbrev pub max_name : ℕ
max_name = 64

-- the constants of an enumeration
abbrev pub max_constants : ℕ
max_constants = 256

-- the scalar cells of a type
abbrev pub max_cells : ℕ
max_cells = 131072
