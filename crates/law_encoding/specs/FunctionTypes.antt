-- The types of functions that a module lists are few.
use Rattle.std.specs.Prelude.{◌≡◌, ◌≤◌, ℕ, ◌+◌, ◌*◌, true, ◌++◌, map}
use Rattle.typed_tree.specs.declared.typed_module.TypedModule.{TypedModule}
use Rattle.def_scheme.specs.Scheme.{body_types}
use Rattle.def_scheme.specs.Signatures.{Signature, Signatures, signatures_needed, in_order, type_of}
use Rattle.def_scheme.specs.Modules.{signatures}
use Rattle.wasm_code.specs.Parts.{section}
use Rattle.wasm_binary.specs.Binary.{func_type}
use Rattle.law_modules.specs.WellFormed.{IsWellFormed}
use Rattle.law_encoding.specs.Sizes.{sum_of}
use Rattle.law_encoding.specs.Short.{counts_in}
use Rattle.law_encoding.specs.Fits.{few_entries}

-- a type counts one, and one for each argument
abbrev pub type_counts : Signature → ℕ
type_counts s = 1 + s.arguments

abbrev pub types_count : Signatures → ℕ
types_count ss = sum_of type_counts ss

-- The types that are listed count no more than those that are needed, each of which is listed once.
abbrev pub ListedAreFew : Type 0
ListedAreFew = (ss : Signatures) → types_count (in_order ss) ≤ types_count ss

-- Few types have an encoding.
abbrev pub FewTypesFit : Type 0
FewTypesFit = (m : TypedModule) → types_count (signatures_needed m) ≤ few_entries
    → (section 1 func_type).fits (body_types ++ map type_of (signatures m)) ≡ true

-- The types that a well formed module needs count at most two for each that it counts.
abbrev pub TypesAreFew : Type 0
TypesAreFew =
    (m : TypedModule) → IsWellFormed m → types_count (signatures_needed m) ≤ 2 * counts_in m
