-- The imports of the module of a body have an encoding.
use Rattle.std.specs.Prelude.{◌≡◌, ◌≤◌, ℕ, true, length}
use Rattle.std.specs.List.{list_all}
use Rattle.typed_tree.specs.declared.typed_module.Imported.{Imported}
use Rattle.typed_tree.specs.declared.typed_module.TypedModule.{TypedModule}
use Rattle.def_scheme.specs.Modules.{imports}
use Rattle.wasm_code.specs.Parts.{name, section}
use Rattle.wasm_binary.specs.Binary.{import}
use Rattle.law_encoding.specs.Sizes.{sum_of}
use Rattle.law_encoding.specs.Fits.{few_entries}

abbrev pub imported_length : Imported → ℕ
imported_length i = length i.name

-- The module and those that it imports are few, and have short names in UTF-8.
pub record NamesAreShort (m : TypedModule) : Type 0 where
  pub own : name.fits m.name ≡ true
  pub own_length : length m.name ≤ few_entries
  pub names : list_all (λ i. name.fits i.name) m.imports ≡ true
  pub lengths : sum_of imported_length m.imports ≤ few_entries
  pub count : length m.imports ≤ few_entries

-- Then the imports have an encoding.
abbrev pub ImportsFit : Type 0
ImportsFit = (m : TypedModule) → NamesAreShort m → (section 2 import).fits (imports m) ≡ true
