-- Whether each type that a module knows has at most 16777216 bytes, so that its sizes and
-- offsets are not cut.
use Rattle.std.specs.Prelude.{ℕ, zero, suc, Bool, true, not, ◌&&◌, nat_lt, List, length}
use Rattle.std.specs.List.{fold}
use Rattle.typed_tree.specs.declared.types.Home.TheVariants.{Module}
use Rattle.typed_tree.specs.declared.types.TypeNo.{TypeNo}
use Rattle.typed_tree.specs.declared.shape.Made.{Made}
use Rattle.typed_tree.specs.declared.known_types.Types.{Types}
use Rattle.layout_storage.specs.Types.{Ty}
use Rattle.layout_storage.specs.Sizes.{size}
use Rattle.layout_storage.specs.Shapes.{tree}
use Rattle.layout_storage.specs.Layouts.{max_storage}

abbrev pub type_fits : Ty → Bool
type_fits t = not (nat_lt max_storage (size t))

abbrev pub made_type : (home number : ℕ) → TypeNo
made_type home n = record { home = Module home; number = n }

-- the types with lesser numbers
abbrev pub numbers_fit : Types → (home count : ℕ) → Bool
numbers_fit types home zero = true
numbers_fit types home (suc n) =
    numbers_fit types home n && type_fits (tree types (made_type home n))

abbrev pub module_fits : Types → Bool → ℕ × List Made → Bool
module_fits types others e = others && numbers_fit types e.0 (length e.1)

-- the types of all modules
abbrev pub types_fit : Types → Bool
types_fit types =
    fold (module_fits types) true types.others && numbers_fit types types.home (length types.own)
