-- What is proved of programs whose modules are typed: once they are linked, they do what the
-- program does.
use Rattle.std.specs.Prelude.{◌≡◌, ℕ, ◌+◌, ◌*◌, ◌<◌, ◌≤◌, ◌^◌, Some, Ok, slice_get}
use Rattle.wasm_tree.specs.Machine.{Config}
use Rattle.wasm_tree.specs.Linking.{link}
use Rattle.wasm_tree.specs.Validity.{AreDistinct}
use Rattle.typed_tree.specs.declared.typed_module.TypedModule.{TypedModule}
use Rattle.def_meaning.specs.Runs.{run, least_stack}
use Rattle.law_modules.specs.Linked.{Program, names, all, slots_in, bytes_in, IsLinkable}
use Rattle.law_simulation.specs.Behaves.{Behaves}
use Rattle.law_simulation.specs.RunsPrograms.{ground, fixtures_of}
use Rattle.law_simulation.specs.Linked.{IsLinked}
use Rattle.law_simulation.specs.Knows.{IsCoherent}
use Rattle.law_simulation.specs.Modules.{AreModules, AreTypedModules}
use Rattle.layout_storage.specs.Sizes.{page_size}
use Rattle.def_scheme.specs.Modules.{max_pages}

-- linking gives each module what the code of typed bodies looks for
abbrev pub ModulesLinked : Type 0
ModulesLinked =
    (p : Program) (pages : ℕ)
    → AreDistinct (names p)
    → 1 + slots_in p < 2 ^ 32
    → ((place : ℕ) (m : TypedModule) → slice_get p place ≡ Some m → IsCoherent p place m)
    → (place : ℕ) (m : TypedModule)
    → slice_get p place ≡ Some m
    → IsLinked p (ground p pages).base (ground p pages).texts (all p pages) (fixtures_of p pages)
    place m

-- there is room for the data and the least stack, and the modules are as the checker leaves them
abbrev pub TypedBehave : Type 0
TypedBehave =
    (p : Program) (pages : ℕ)
    → IsLinkable p pages
    → bytes_in p + least_stack ≤ page_size * pages
    → pages ≤ max_pages
    → 1 + slots_in p < 2 ^ 32
    → AreModules p
    → AreTypedModules p pages
    → (c : Config) × (link (all p pages) ≡ Ok c) × Behaves (all p pages) c (run p pages)
