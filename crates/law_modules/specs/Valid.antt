-- What is valid: the module of each well formed body, and the module link of a program.
use Rattle.std.specs.Prelude.{ℕ, ◌^◌, ◌≤◌, ◌<◌, List, map}
use Rattle.wasm_tree.specs.Validity.{IsValid, AreDistinct}
use Rattle.typed_tree.specs.declared.typed_module.TypedModule.{TypedModule}
use Rattle.def_scheme.specs.Modules.{typed_module, typed_link, part_of, all_slots}
use Rattle.law_modules.specs.WellFormed.{IsWellFormed}
use Rattle.wasm_tree.specs.Limits.{max_memory}

abbrev pub ModulesAreValid : Type 0
ModulesAreValid = (m : TypedModule) → IsWellFormed m → IsValid (typed_module m)

-- no two modules of the program have one name, and its memory and its table have a size that there
-- can be
abbrev pub LinkIsValid : Type 0
LinkIsValid = (ms : List TypedModule) (pages : ℕ) → pages ≤ max_memory
    → all_slots (map part_of ms) < 2 ^ 32 → AreDistinct (map (λ m. m.name) ms)
    → IsValid (typed_link ms pages)
