-- What became of the modules of files.
use Rattle.std.specs.Prelude.{ℕ, ◌+◌, List, [], ◌∷◌, ◌++◌, Option, Some, None, slice_get}
use Rattle.std.specs.List.{flat_map}
use Rattle.std.specs.Option.{option_and_then}
use Rattle.m2_tree.specs.declared.decl.Module.{Module}
use Rattle.m2_graph.specs.Jobs.{number_of}
use Rattle.m2_emit.specs.declared.emitted.ModuleBytes.{ModuleBytes}
use Rattle.build_jobs.specs.declared.outcome.Compiled.{Compiled}
use Rattle.build_jobs.specs.declared.outcome.Compiled.TheVariants.{Defined, Built, Refused, Blocked}
use Rattle.build_jobs.specs.Jobs.{all_compiled}
use Rattle.build_results.specs.Reported.{Reported, reported_at}
use Rattle.build_results.specs.Texts.{modules}

-- what became of the module of a file, if the file of each job is given by its place
abbrev pub result_of : (files : List ℕ) → List Compiled → (file : ℕ) → Option Compiled
result_of files results file = option_and_then (slice_get results) (number_of files file)

abbrev pub module_in : Option Compiled → List ModuleBytes
module_in (Some (Built b)) = b ∷ []
module_in (Some (Defined t)) = []
module_in (Some (Refused f)) = []
module_in (Some Blocked) = []
module_in None = []

-- the modules of the bodies in these files
abbrev pub modules_at : (result : ℕ → Option Compiled) → (starts : List ℕ) → List ModuleBytes
modules_at result starts = flat_map (λ s. module_in (result s)) starts

-- the rule that a module breaks
abbrev pub refusal_in : (file : List ℕ) → Option Compiled → List Reported
refusal_in file (Some (Refused f)) = reported_at file f.pos.line f.pos.col f.number ∷ []
refusal_in file (Some (Defined t)) = []
refusal_in file (Some (Built b)) = []
refusal_in file (Some Blocked) = []
refusal_in file None = []

-- the rules that the modules of these files break, of which the first has this place
abbrev pub refused_from : (result : ℕ → Option Compiled) → ℕ → List (List ℕ × Module)
    → List Reported
refused_from result n [] = []
refused_from result n (f ∷ fs) = refusal_in f.0 (result n) ++ refused_from result (n + 1) fs

-- what became of the module of a file
abbrev pub result_at : List (List ℕ × Module) → (files : List ℕ) → (jobs : List (List ℕ))
    → (file : ℕ) → Option Compiled
result_at trees files all_jobs = result_of files (all_compiled (modules trees) files all_jobs)

-- the rules that modules break, in the order in which the files were given
abbrev pub refused_by : List (List ℕ × Module) → (files : List ℕ) → (jobs : List (List ℕ))
    → List Reported
refused_by trees files all_jobs = refused_from (result_at trees files all_jobs) 0 trees

-- the modules that start
abbrev pub start_modules : List (List ℕ × Module) → (files : List ℕ) → (jobs : List (List ℕ))
    → (starts : List ℕ) → List ModuleBytes
start_modules trees files all_jobs starts = modules_at (result_at trees files all_jobs) starts
