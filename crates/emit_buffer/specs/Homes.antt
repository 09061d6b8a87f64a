-- What is kept of a module.
use Rattle.std.specs.Prelude.{◌≡◌, ℕ, nat_eq, ◌==◌, List, Option, Some, None, Bool, true, false, if◌then◌else◌, slice_get, map}
use Rattle.std.specs.List.{position}
use Rattle.std.specs.Map.{lookup}
use Rattle.indexmap.specs.IndexMap.{insert_entry}
use Rattle.typed_tree.specs.declared.typed_module.Imported.{Imported}
use Rattle.typed_tree.specs.declared.typed_module.TypedModule.{TypedModule}
use Rattle.layout_storage.specs.declared.layout.Layout.{Layout}
use Rattle.layout_storage.specs.declared.row.Row.{Row}
use Rattle.layout_storage.specs.Extents.{start_in}
use Rattle.layout_storage.specs.Rows.{variables_row}
use Rattle.layout_storage.specs.Layouts.{IsLayout, imported_row}
use Rattle.def_scheme.specs.Exprs.{import_place, is_own}
use Rattle.def_scheme.specs.Signatures.{Signatures}
use Rattle.def_scheme.specs.Modules.{signatures}
use Rattle.emit_buffer.specs.Fitting.{sizes_fit}

-- the place of a module among imports
abbrev pub ArePlaces : List (ℕ × ℕ) → List Imported → Type 0
ArePlaces ps imports =
    (home : ℕ) → lookup (nat_eq home) ps ≡ position (λ i. i.number == home) imports

abbrev pub is_there : {A : Type 0} → Option A → Bool
is_there None = false
is_there (Some x) = true

abbrev pub with_place : List (ℕ × ℕ) → Imported → ℕ → List (ℕ × ℕ)
with_place ps i place =
    if is_there (lookup (nat_eq i.number) ps) then ps else insert_entry nat_eq ps i.number place

abbrev pub start_or : Option Row → ℕ → ℕ
start_or None k = 0
start_or (Some r) k = start_in r k

-- what is kept of the variables of a module
abbrev pub row_for : TypedModule → (home : ℕ) → Option Row
row_for m home =
    if is_own m home
    then Some (variables_row m.types m.variables)
    else slice_get (map (imported_row m.types) m.imports) (import_place m home)

pub record IsHome (m : TypedModule) (x : Layout) (ss : Signatures) (ps : List (ℕ × ℕ))
    : Type 0 where
  pub layout : IsLayout m x
  pub signatures : ss ≡ signatures m
  pub places : ArePlaces ps m.imports
  pub fits : sizes_fit m.types ≡ true
