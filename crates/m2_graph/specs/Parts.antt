-- Tables of names.
use Rattle.std.specs.Prelude.{ℕ, Bool, false, not, nat_lt, ◌&&◌, List, Option, Some, None}
use Rattle.std.specs.Borrow.{Bor}
use Rattle.std.specs.HashMap.{HashMap, get_by}
use Rattle.m2_tree.specs.declared.decl.Module.{Module}
use Rattle.m2_graph.specs.declared.program.Part.{Part}
use Rattle.m2_graph.specs.declared.program.Part.TheVariants.{Definition, Implementation, Body}
use Rattle.m2_tree.specs.Names.{same_name}
use Rattle.m2_graph.specs.Imports.{is_definition, is_implementation}

abbrev pub is_part : Part → Module → Bool
is_part Definition m = is_definition m
is_part Implementation m = is_implementation m
is_part Body m = not (is_definition m)

-- a module of this sort, with this name
abbrev pub bears : Part → List ℕ → Module → Bool
bears part name m = is_part part m && same_name name m.name.name

-- the number that a name has in a table
abbrev pub number_at : {S : Type 0} → HashMap (Bor (List ℕ)) ℕ S → List ℕ → Option ℕ
number_at table name = get_by (λ k. same_name name k.now) table

-- the first answer, if there is one
abbrev pub or_first : Option ℕ → Option ℕ → Option ℕ
or_first None later = later
or_first (Some k) later = Some k

-- whether the first of some modules stands before this number
abbrev pub is_earlier : Option ℕ → ℕ → Bool
is_earlier None number = false
is_earlier (Some first) number = nat_lt first number
