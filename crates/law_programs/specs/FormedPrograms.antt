-- The modules that the jobs of a graph make are well formed, and valid.
use Rattle.std.specs.Prelude.{◌≡◌, ℕ, ◌≤◌, true, List, map}
use Rattle.m2_tree.specs.declared.decl.Module.{Module}
use Rattle.wasm_tree.specs.Validity.{IsValid, AreDistinct}
use Rattle.wasm_binary.specs.Binary.{module_fits}
use Rattle.m2_graph.specs.Files.{number_files}
use Rattle.m2_graph.specs.Graph.{IsGraph}
use Rattle.typed_tree.specs.declared.typed_module.TypedModule.{TypedModule}
use Rattle.def_scheme.specs.Modules.{typed_module, typed_link}
use Rattle.law_modules.specs.WellFormed.{IsWellFormed}
use Rattle.law_well_formed.specs.Formed.{Holds}
use Rattle.build_jobs.specs.Compiling.{tables_of, typed_body}
use Rattle.build_jobs.specs.Jobs.{needed_of}
use Rattle.wasm_tree.specs.Limits.{max_memory}

-- the modules of files
abbrev pub trees_of : List (List ℕ × Module) → List Module
trees_of fs = map (λ f. f.1) fs

-- The files have this graph: the file of each job, what each job needs, and the files of the bodies
-- in start order. What a job makes of the body of a module, from what the jobs that it needs came
-- to, is as the fact says.
abbrev pub JobsMake : (TypedModule → Type 0) → Type 0
JobsMake P = (fs : List (List ℕ × Module)) (files : List ℕ) (jobs : List (List ℕ)) (starts : List ℕ)
    → IsGraph (number_files 0 fs) files jobs starts → (m : Module) (job : ℕ)
    → Holds P (typed_body m job (tables_of (needed_of (trees_of fs) files jobs job)))

abbrev pub ProgramsAreFormed : Type 0
ProgramsAreFormed = JobsMake IsWellFormed

abbrev pub ProgramsAreValid : Type 0
ProgramsAreValid = JobsMake (λ t. IsValid (typed_module t))

-- and so is link, if it has an encoding and no two modules of the program have one name
abbrev pub LinksAreValid : Type 0
LinksAreValid = (ms : List TypedModule) (pages : ℕ) → pages ≤ max_memory
    → module_fits (typed_link ms pages) ≡ true → AreDistinct (map (λ m. m.name) ms)
    → IsValid (typed_link ms pages)
