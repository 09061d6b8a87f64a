-- What is there while a program runs: the instances that live, by their types.
use Rattle.std.specs.Prelude.{ℕ, nat_eq, nat_lt, Bool, true, false, not, ◌&&◌, List, [], ◌∷◌, Option, Some, None, slice_get}
use Rattle.layout_storage.specs.Types.{Ty, Cell, Hidden, Array, Nothing, Field, component}
use Rattle.def_meaning.specs.Store.{Location}

-- the instances are numbered from 0
abbrev pub World : Type 0
World = List Ty

abbrev pub component_in : Option Ty → Location → Option Ty
component_in None r = None
component_in (Some t) r = component t r

-- the type of what stands at a location
abbrev pub type_at : World → Location → Option Ty
type_at world [] = None
type_at world (i ∷ r) = component_in (slice_get world i) r

abbrev pub is_cell : Option Ty → Bool
is_cell None = false
is_cell (Some (Cell c)) = true
is_cell (Some (Hidden n)) = false
is_cell (Some (Array n t)) = false
is_cell (Some Nothing) = false
is_cell (Some (Field t others)) = false

-- an array of this many scalars, or of more
abbrev pub has_room : Option Ty → ℕ → Bool
has_room (Some (Array n (Cell c))) k = not (nat_lt n k)
has_room o k = false

-- types with the same components, whatever numbers their cells hold
unfoldable pub are_alike : Ty → Ty → Bool
are_alike (Cell c) (Cell d) = true
are_alike (Hidden n) (Hidden m) = nat_eq n m
are_alike (Array n t) (Array m u) = nat_eq n m && are_alike t u
are_alike Nothing Nothing = true
are_alike (Field t others) (Field u rest) = are_alike t u && are_alike others rest
are_alike t u = false

abbrev pub is_like : Option Ty → Ty → Bool
is_like None u = false
is_like (Some t) u = are_alike t u
