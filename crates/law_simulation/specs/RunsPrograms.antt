-- Whole programs: what stands in the memory and in the table when they begin, and what their linked
-- modules do.
use Rattle.std.specs.Prelude.{◌≡◌, ℕ, suc, ◌+◌, ◌*◌, ◌-◌, ◌<◌, Bool, false, List, [], ◌∷◌, ◌++◌, map, replicate, Some, Ok, All}
use Rattle.wasm_tree.specs.Machine.{Config, Typed}
use Rattle.wasm_tree.specs.Linking.{link}
use Rattle.law_effect.specs.Bytes.{byte}
use Rattle.law_effect.specs.Effect.{Fixed, nest_calls}
use Rattle.typed_tree.specs.declared.typed_module.TypedModule.{TypedModule}
use Rattle.layout_storage.specs.Types.{Ty, Hidden, row, IsFit}
use Rattle.layout_storage.specs.Sizes.{offset, page_size}
use Rattle.layout_storage.specs.Shapes.{tree}
use Rattle.layout_storage.specs.Frames.{module_row}
use Rattle.layout_storage.specs.Texts.{characters, module_texts}
use Rattle.def_meaning.specs.Runs.{run}
use Rattle.def_scheme.specs.Functions.{module_function}
use Rattle.def_scheme.specs.Modules.{numbering_of, slots}
use Rattle.law_memory.specs.Bodies.{BodyAt, body_type}
use Rattle.law_modules.specs.Linked.{Program, IsLinkable, all, bytes_in, image, linked_store, text}
use Rattle.law_simulation.specs.Behaves.{Behaves}
use Rattle.law_simulation.specs.Bodies.{Ground, statements_do, AllDo}

-- ---- the memory

-- the instance of a module: its variables, and behind them its texts
abbrev pub module_type : TypedModule → Ty
module_type m = row (map (tree m.types) m.variables ++ Hidden (characters (module_texts m)) ∷ [])

abbrev pub first_bytes : Program → (pages : ℕ) → List ℕ
first_bytes p pages = image p ++ replicate (page_size * pages - bytes_in p) 0

-- the instances of all modules, with the texts that stand there when the program begins
abbrev pub ground : Program → (pages : ℕ) → Ground
ground p pages = record {
  program = p;
  base = map module_type p;
  texts = λ l k. byte (offset (row (map module_type p)) l + k) (first_bytes p pages);
  limit = page_size * pages;
}

-- the variables are of types of the language, and the texts are bytes
pub record IsSound (m : TypedModule) : Type 0 where
  pub fit : IsFit (module_row m)
  pub small : All (λ b. b < 256) (text m)

-- ---- the table

abbrev pub body_typed : TypedModule → Typed
body_typed m = record { type = body_type; function = module_function (numbering_of m) m }

-- the bodies of modules, of which the first has this global of link, this slot and this number
abbrev pub bodies_at : (global slot own : ℕ) → Program → List BodyAt
bodies_at global slot own [] = []
bodies_at global slot own (m ∷ ms) =
    record { global = global; slot = slot; own = own; function = 5; typed = body_typed m }
    ∷ bodies_at (global + 3) (slot + slots m) (own + 1) ms

-- what a run does not change
abbrev pub fixtures_of : Program → (pages : ℕ) → Fixed
fixtures_of p pages = record {
  functions = (linked_store p pages).functions;
  tables = (linked_store p pages).tables;
  globals = (linked_store p pages).globals;
  instances = (linked_store p pages).instances;
  max = Some pages;
}

-- ---- the law

-- if the function of each body does what its statements do
abbrev pub BodiesDo : Program → (pages : ℕ) → (serves : (k f : ℕ) → Bool) → (extra : (k f : ℕ) → ℕ)
    → Type 0
BodiesDo p pages serves extra =
    (n : ℕ)
    → AllDo (ground p pages) (nest_calls (all p pages) (fixtures_of p pages) serves extra n (suc n))
    (statements_do p pages n) 0 p (bodies_at 3 1 1 p)

-- the modules link, and do what the program does
abbrev pub ProgramBehaves : Type 0
ProgramBehaves =
    (p : Program) (pages : ℕ)
    → IsLinkable p pages
    → All IsSound p
    → (serves : (k f : ℕ) → Bool) (extra : (k f : ℕ) → ℕ)
    → serves 0 0 ≡ false
    → BodiesDo p pages serves extra
    → (c : Config) × (link (all p pages) ≡ Ok c) × Behaves (all p pages) c (run p pages)
