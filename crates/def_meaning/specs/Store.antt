-- The store of a program: what number each location holds. There are no addresses.
use Rattle.std.specs.Prelude.{ℕ, nat_eq, ℤ, pos, List, [], ◌∷◌, ◌++◌, Option, Some, None, if◌then◌else◌}
use Rattle.layout_storage.specs.Types.{Ty, Cell, component, first}

-- a location: the number of an instance (a module's variables, an activation's, or the copy of an
-- open array), and then the numbers of the variable and of its components
abbrev pub Location : Type 0
Location = List ℕ

abbrev pub Store : Type 0
Store = Location → ℤ

-- what of a location lies behind another one, if it is that one or a component of it
unfoldable pub behind : Location → Location → Option Location
behind [] l = Some l
behind (i ∷ p) [] = None
behind (i ∷ p) (j ∷ l) = if nat_eq i j then behind p l else None

-- the first if there is something behind, else the second
abbrev pub choose_arm : {A : Type 0} → Option Location → (Location → A) → A → A
choose_arm (Some r) f a = f r
choose_arm None f a = a

-- a location and its components hold this now, all others what they held
unfoldable pub overlay : {A : Type 0} → Location → (Location → A) → (Location → A) → Location → A
overlay to f s l = choose_arm (behind to l) f (s l)

-- an assignment of a number, and of a whole array or record
abbrev pub assign_number : Location → ℤ → Store → Store
assign_number to v s = overlay to (λ r. v) s

abbrev pub copy_whole : (to from : Location) → Store → Store
copy_whole to from s = overlay to (λ r. s (from ++ r)) s

-- what a fresh variable of this type holds
abbrev pub first_in : Option Ty → ℤ
first_in None = pos 0
first_in (Some (Cell c)) = first c
first_in (Some _) = pos 0

unfoldable pub fresh : Ty → Location → ℤ
fresh t r = first_in (component t r)
