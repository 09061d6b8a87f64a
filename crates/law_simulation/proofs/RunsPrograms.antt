-- The linked modules of a program do what the program does.
use Rattle.std.proofs.Common.{◌≡◌, ℕ, List, [], ◌∷◌, ◌++◌, Some, Ok, sym, ap, ◌∙◌, arith}
use Rattle.std.specs.Prelude.{replicate}
use Rattle.wasm_tree.specs.declared.instr.Instr.{Instr}
use Rattle.wasm_tree.specs.Machine.{Config, Going, enter_function}
use Rattle.law_effect.specs.Effect.{store_of}
use Rattle.layout_storage.specs.Types.{row}
use Rattle.layout_storage.specs.Sizes.{size}
use Rattle.law_memory.specs.Bodies.{run_typed, bodies_code}
use Rattle.law_modules.specs.Linked.{Program, all, bytes_in, image, begin, linked_store}
use Rattle.law_modules.proofs.Placed.{modules_link}
use Rattle.law_simulation.specs.RunsPrograms.{ground, first_bytes, bodies_at, fixtures_of, ProgramBehaves}
use Rattle.law_simulation.proofs.RunsBodies.{bodies_behave}
use Rattle.law_simulation.proofs.Grounds.{top_is, first_held}
use Rattle.law_simulation.proofs.Tabled.{link_calls, bodies_there}

-- where link's run begins
abbrev begins : Program → (pages : ℕ) → Config
begins p pages = Going (store_of (fixtures_of p pages) (first_bytes p pages))
    (enter_function 0 (run_typed 0 (size (row (ground p pages).base)) 1 (bodies_at 3 1 1 p)) []) []

with_code : Program → (pages : ℕ) → List Instr → Config
with_code p pages code = Going (store_of (fixtures_of p pages) (first_bytes p pages)) (record (begin p) { rest = code })
    []

begins_is : (p : Program) (pages : ℕ) → ◌≡◌ {A = Config} (Going (linked_store p pages) (begin p) []) (begins p pages)
unfolding with_code
begins_is p pages =
    ap (λ (n : ℕ). Going (record (linked_store p pages)
    { memories = record { bytes = image p ++ replicate n 0; max = Some pages } ∷ [] }) (begin p) []) (omega arith)
    ∙ ap (with_code p pages) (link_calls (bytes_in p) p
    ∙ ap (λ (top : ℕ). bodies_code top 1 (bodies_at 3 1 1 p)) (sym (top_is p)))

pub program_behaves : ProgramBehaves
program_behaves p pages linkable sound serves extra none does = (
  begins p pages,
  modules_link p pages linkable ∙ ap (λ (c : Config). Ok c) (begins_is p pages),
  bodies_behave p pages (ground p pages) (all p pages) (fixtures_of p pages) serves extra 0 0 0 1 (bodies_at 3 1 1 p)
      none (bodies_there p pages) does (first_bytes p pages) (first_held p pages sound linkable.room),
)
