-- What becomes of the jobs of a graph.
use Rattle.std.specs.Prelude.{◌≡◌, ℕ, List, Option, Some, None, slice_get, slice_index_or}
use Rattle.m2_tree.specs.declared.decl.Module.{Module}
use Rattle.pool_board.specs.Graph.{prerequisites_of}
use Rattle.pool_board.specs.Results.{results, results_below, items_at}
use Rattle.build_jobs.specs.declared.outcome.Compiled.{Compiled}
use Rattle.build_jobs.specs.declared.outcome.Compiled.TheVariants.{Blocked}
use Rattle.build_jobs.specs.Compiling.{compilation_of}

-- what becomes of the module of a job, if there is one
abbrev pub compile_in_place : Option Module → (job : ℕ) → List Compiled → Compiled
compile_in_place None job needed = Blocked
compile_in_place (Some m) job needed = compilation_of m job needed

-- what becomes of a job, if the file of each job is given by its place
abbrev pub compile_at : List Module → (files : List ℕ) → (job : ℕ) → List Compiled → Compiled
compile_at trees files job needed =
    compile_in_place (slice_get trees (slice_index_or files job 0)) job needed

abbrev pub all_compiled : List Module → (files : List ℕ) → (jobs : List (List ℕ)) → List Compiled
all_compiled trees files jobs = results jobs (compile_at trees files)

-- the same as a relation: what may come of a job from what its prerequisites came to
abbrev pub Defines : List Module → (files : List ℕ) → (job : ℕ) → List Compiled → Compiled → Type 0
Defines trees files job needed c = c ≡ compile_at trees files job needed

-- what the prerequisites of a job come to
abbrev pub needed_of : List Module → (files : List ℕ) → (jobs : List (List ℕ)) → (job : ℕ)
    → List Compiled
needed_of trees files jobs job =
    items_at (results_below jobs (compile_at trees files) job) (prerequisites_of jobs job)
