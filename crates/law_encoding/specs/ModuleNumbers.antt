-- The indexes in the code of a module fit.
use Rattle.std.specs.Prelude.{◌≡◌, ◌≤◌, ◌<◌, ◌+◌, true, length}
use Rattle.std.specs.List.{list_all}
use Rattle.typed_tree.specs.declared.typed_module.TypedModule.{TypedModule}
use Rattle.def_scheme.specs.Signatures.{signatures_needed}
use Rattle.def_scheme.specs.Modules.{functions}
use Rattle.wasm_code.specs.Number.{unsigned}
use Rattle.wasm_binary.specs.Binary.{types_of}
use Rattle.law_modules.specs.WellFormed.{IsWellFormed}
use Rattle.law_encoding.specs.Sizes.{sum_of}
use Rattle.law_encoding.specs.CodeBytes.{function_bytes}
use Rattle.law_encoding.specs.CodeNumbers.{code_numbers_fit}
use Rattle.law_encoding.specs.Fits.{few_entries, max_bytes, most_locals}
use Rattle.law_encoding.specs.FunctionTypes.{types_count}
use Rattle.law_encoding.specs.ValidNumbers.{code_constants_fit}

-- The module has few types, imports and locals, and its functions are short in all.
pub record HasFewParts (m : TypedModule) : Type 0 where
  pub types : types_count (signatures_needed m) ≤ few_entries
  pub imported : length m.imports ≤ few_entries
  pub locals : most_locals m ≤ few_entries
  pub size : 5 + sum_of function_bytes (functions m) < max_bytes

-- The numbers in the code of a module with few parts fit, if it is well formed and its constants
-- fit, and so do the numbers of the types of its functions.
abbrev pub IndexesFit : Type 0
IndexesFit = (m : TypedModule) → IsWellFormed m → HasFewParts m
    → (list_all unsigned.fits (types_of (functions m)) ≡ true)
    × (list_all (λ f. code_constants_fit f.body.code) (functions m) ≡ true
    → list_all (λ f. code_numbers_fit f.body.code) (functions m) ≡ true)
