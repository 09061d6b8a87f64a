-- How the extents of the types of all modules are made, each from those before it.
use Rattle.std.specs.Prelude.{ℕ, ◌*◌, nat_eq, List, [], ◌∷◌, ◌++◌, length, Option, Some, None}
use Rattle.std.specs.List.{fold}
use Rattle.std.specs.Map.{lookup}
use Rattle.indexmap.specs.IndexMap.{insert_entry}
use Rattle.typed_tree.specs.declared.types.Home.TheVariants.{Module}
use Rattle.typed_tree.specs.declared.types.TypeNo.{TypeNo}
use Rattle.typed_tree.specs.declared.shape.Shape.{Shape}
use Rattle.typed_tree.specs.declared.shape.Shape.TheVariants as shape
use Rattle.typed_tree.specs.declared.shape.Made.{Made}
use Rattle.typed_tree.specs.declared.known_types.Types.{Types}
use Rattle.typed_tree.specs.Known.{scalar_at}
use Rattle.layout_storage.specs.declared.making.Making.{Making}
use Rattle.layout_storage.specs.declared.extent.Extent.{Extent}
use Rattle.layout_storage.specs.declared.extent.Extent.TheVariants as extent
use Rattle.layout_storage.specs.declared.row.Row.{Row}
use Rattle.layout_storage.specs.Capped.{cap_size}
use Rattle.layout_storage.specs.Shapes.{scalar_kind, elements_of}
use Rattle.layout_storage.specs.Extents.{Known, kind_of, word, nothing, begin_row, with_part, size_in, extent_in}

-- the types of the module that is at work stand before all others
abbrev pub known_in : Making → Known
known_in x = (x.home, x.own) ∷ x.modules

abbrev pub part_size : Making → TypeNo → ℕ
part_size x t = size_in (extent_in (known_in x) t)

abbrev pub with_field : Making → Row → List ℕ × TypeNo → Row
with_field x r f = with_part r (part_size x f.1)

abbrev pub array_extent : (count element : ℕ) → Extent
array_extent count element = extent.Array element (cap_size (count * element))

abbrev pub shape_extent : Types → Making → TypeNo → Shape → Extent
shape_extent types x t (shape.Scalar s) = extent.Cell (kind_of (scalar_kind t s))
shape_extent types x t shape.Set = word
shape_extent types x t (shape.Array i e) =
    array_extent (cap_size (elements_of (scalar_at types i))) (part_size x e)
shape_extent types x t (shape.Record fs) = extent.Row (fold (with_field x) (begin_row 0) fs)
shape_extent types x t (shape.Procedure p) = word
shape_extent types x t (shape.Open e) = nothing

abbrev pub next_type : Making → TypeNo
next_type x = record { home = Module x.home; number = length x.own }

abbrev pub with_type : Types → Making → Made → Making
with_type types x m = record x { own = x.own ++ shape_extent types x (next_type x) m.shape ∷ [] }

-- the first of a number counts
abbrev pub added_if : Option (List Extent) → Known → ℕ → List Extent → Known
added_if (Some found) known home xs = known
added_if None known home xs = insert_entry nat_eq known home xs

abbrev pub add_module : Making → Known
add_module x = added_if (lookup (nat_eq x.home) x.modules) x.modules x.home x.own

abbrev pub all_made : Types → Known → ℕ → List Made → Making
all_made types known home ms =
    fold (with_type types) (record { modules = known; home = home; own = [] }) ms

abbrev pub with_types : Types → Known → ℕ → List Made → Known
with_types types known home ms = add_module (all_made types known home ms)

abbrev pub with_module : Types → Known → ℕ × List Made → Known
with_module types known e = with_types types known e.0 e.1

-- the module's own count, also if others know some of them
abbrev pub replace_module : Making → Known
replace_module x = insert_entry nat_eq x.modules x.home x.own

abbrev pub with_own : Types → Known → Known
with_own types known = replace_module (all_made types known types.home types.own)

abbrev pub known_extents : Types → Known
known_extents types = with_own types (fold (with_module types) [] types.others)
