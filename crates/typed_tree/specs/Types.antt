-- Types and how they are made.
use Rattle.std.specs.Prelude.{ℕ, Bool, true, false, ◌&&◌, ◌||◌, ◌==◌}
use Rattle.typed_tree.specs.declared.types.Home.{Home}
use Rattle.typed_tree.specs.declared.types.Home.TheVariants.{Predeclared, Module}
use Rattle.typed_tree.specs.declared.types.TypeNo.{TypeNo}

abbrev pub is_one_home : Home → Home → Bool
is_one_home Predeclared Predeclared = true
is_one_home Predeclared (Module n) = false
is_one_home (Module m) Predeclared = false
is_one_home (Module m) (Module n) = m == n

-- a type is known by where it is made and its number there
abbrev pub are_same : TypeNo → TypeNo → Bool
are_same t u = is_one_home t.home u.home && t.number == u.number

abbrev pub predeclared_type : ℕ → TypeNo
predeclared_type n = record { home = Predeclared; number = n }

abbrev pub integer : TypeNo
integer = predeclared_type 0

abbrev pub cardinal : TypeNo
cardinal = predeclared_type 1

abbrev pub boolean : TypeNo
boolean = predeclared_type 2

abbrev pub char : TypeNo
char = predeclared_type 3

abbrev pub bitset : TypeNo
bitset = predeclared_type 4

abbrev pub is_integer : TypeNo → Bool
is_integer t = are_same t integer

abbrev pub is_numeric : TypeNo → Bool
is_numeric t = are_same t integer || are_same t cardinal
