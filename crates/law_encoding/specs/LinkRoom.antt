-- The module link has an encoding.
use Rattle.std.specs.Prelude.{◌≡◌, ◌≤◌, ◌<◌, ℕ, ◌+◌, true, List, length, map}
use Rattle.std.specs.List.{list_all}
use Rattle.typed_tree.specs.declared.typed_module.TypedModule.{TypedModule}
use Rattle.def_scheme.specs.Modules.{max_pages, part_of, stack_begin, all_slots, typed_link}
use Rattle.wasm_code.specs.Parts.{name}
use Rattle.wasm_binary.specs.Binary.{module_fits}
use Rattle.law_encoding.specs.Sizes.{sum_of}
use Rattle.law_encoding.specs.Fits.{few_entries, max_bytes}

abbrev pub name_length : TypedModule → ℕ
name_length m = length m.name

-- What is asked of a program: few modules, with short names in UTF-8, and less than 2 ^ 32 bytes of
-- variables and texts and slots of the table in all.
pub record LinkIsSmall (ms : List TypedModule) (pages : ℕ) : Type 0 where
  pub memory : pages ≤ max_pages
  pub modules : length ms ≤ few_entries
  pub storage : stack_begin (map part_of ms) < max_bytes
  pub slots : 1 + all_slots (map part_of ms) < max_bytes
  pub names : list_all (λ m. name.fits m.name) ms ≡ true
  pub lengths : sum_of name_length ms ≤ few_entries

abbrev pub LinkFits : Type 0
LinkFits = (ms : List TypedModule) (pages : ℕ) → LinkIsSmall ms pages
    → module_fits (typed_link ms pages) ≡ true
