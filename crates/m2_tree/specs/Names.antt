-- Names as lists of bytes.
use Rattle.std.specs.Prelude.{ℕ, Bool, nat_eq, List, codes}
use Rattle.std.specs.Cmp.Lexicographic.{pointwise}

-- two names have the same bytes
abbrev pub same_name : List ℕ → List ℕ → Bool
same_name a b = pointwise nat_eq a b

-- the name of the built in module
abbrev pub is_console : List ℕ → Bool
is_console name = same_name name (codes "Console")
