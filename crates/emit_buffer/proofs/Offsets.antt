-- Where variables stand.
use Rattle.std.proofs.Common.{◌≡◌, ℕ, Bool, true, false, List, [], ◌∷◌, map, Option, Some, None, refl, ap, ◌∙◌}
use Rattle.std.specs.Prelude.{slice_get, if◌then◌else◌}
use Rattle.std.specs.Option.{option_map}
use Rattle.std.proofs.lemmas.Option.{slice_get-map}
use Rattle.typed_tree.specs.declared.types.TypeNo.{TypeNo}
use Rattle.typed_tree.specs.declared.known_types.Types.{Types}
use Rattle.typed_tree.specs.declared.typed_module.Imported.{Imported}
use Rattle.typed_tree.specs.declared.typed_module.TypedModule.{TypedModule}
use Rattle.layout_storage.specs.declared.row.Row.{Row}
use Rattle.layout_storage.specs.Capped.{cap_size}
use Rattle.layout_storage.specs.Types.{row}
use Rattle.layout_storage.specs.Sizes.{offset}
use Rattle.layout_storage.specs.Shapes.{tree}
use Rattle.layout_storage.specs.Frames.{module_row}
use Rattle.layout_storage.specs.Rows.{variables_row as starts_of}
use Rattle.layout_storage.proofs.Framed.{part_at}
use Rattle.layout_storage.proofs.Capping.{from_nought}
use Rattle.layout_storage.specs.Layouts.{imported_row as imported_starts}
use Rattle.def_scheme.specs.Exprs.{is_own, import_place, imported_row, variables_row}
use Rattle.emit_buffer.specs.Homes.{start_or, row_for}

own_is : (types : Types) (ts : List TypeNo) (k : ℕ)
    → start_or (Some (starts_of types ts)) k ≡ cap_size (offset (row (map (tree types) ts)) (k ∷ []))
own_is types ts k = part_at 0 (map (tree types) ts) k ∙ from_nought (offset (row (map (tree types) ts)) (k ∷ []))

imported_is : (types : Types) (i : Option Imported) (k : ℕ)
    → start_or (option_map (imported_starts types) i) k ≡ cap_size (offset (imported_row types i) (k ∷ []))
unfolding offset
imported_is types None k = refl
imported_is types (Some i) k = own_is types i.variables k

row_case : (m : TypedModule) (home k : ℕ) (b : Bool)
    → start_or (if b then Some (starts_of m.types m.variables) else slice_get (map (imported_starts m.types) m.imports)
    (import_place m home)) k
    ≡ cap_size (offset (if b then module_row m else imported_row m.types (slice_get m.imports (import_place m home)))
    (k ∷ []))
row_case m home k true = own_is m.types m.variables k
row_case m home k false =
    ap (λ (o : Option Row). start_or o k) (slice_get-map (imported_starts m.types) m.imports (import_place m home))
    ∙ imported_is m.types (slice_get m.imports (import_place m home)) k

-- a variable of a module
pub variable_is : (m : TypedModule) (home k : ℕ)
    → start_or (row_for m home) k ≡ cap_size (offset (variables_row m home) (k ∷ []))
variable_is m home k = row_case m home k (is_own m home)
