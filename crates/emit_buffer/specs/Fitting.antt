-- Whether the sizes that stand in code as numbers of 64 bits are kept uncut: those of the types
-- that a module knows, and of the elements of these.
use Rattle.std.specs.Prelude.{ℕ, zero, suc, Bool, true, ◌&&◌, nat_lt, List, length}
use Rattle.std.specs.List.{fold}
use Rattle.typed_tree.specs.declared.shape.Made.{Made}
use Rattle.typed_tree.specs.declared.known_types.Types.{Types}
use Rattle.layout_storage.specs.Types.{Ty}
use Rattle.layout_storage.specs.Sizes.{size}
use Rattle.layout_storage.specs.Shapes.{tree}
use Rattle.layout_storage.specs.Extents.{element_tree}
use Rattle.layout_storage.specs.Fitting.{made_type}

-- the least number of bytes that may be a cut one
abbrev pub cut_size : ℕ
cut_size = 4294967295

abbrev pub size_fits : Ty → Bool
size_fits t = nat_lt (size t) cut_size && nat_lt (size (element_tree t)) cut_size

-- the types with lesser numbers
abbrev pub first_fit : Types → (home count : ℕ) → Bool
first_fit types home zero = true
first_fit types home (suc n) =
    first_fit types home n && size_fits (tree types (made_type home n))

abbrev pub module_fits : Types → Bool → ℕ × List Made → Bool
module_fits types others e = others && first_fit types e.0 (length e.1)

-- the types of all modules
unfoldable pub sizes_fit : Types → Bool
sizes_fit types =
    fold (module_fits types) true types.others && first_fit types types.home (length types.own)
