-- A graph of jobs: for each job its prerequisites, the jobs that are done before it.
use Rattle.std.specs.Prelude.{ℕ, suc, zero, ◌<◌, ◌≤◌, nat_lt, if◌then◌else◌, List, [], ◌∷◌, length, Option, None, IfSome, slice_index_or}
use Rattle.pool_board.specs.Lists.{times}

abbrev pub prerequisites_of : List (List ℕ) → ℕ → List ℕ
prerequisites_of graph job = slice_index_or graph job []

-- each prerequisite is smaller than the job, and stands once
abbrev pub IsJob : List ℕ → ℕ → Type 0
IsJob prerequisites job =
    (p : ℕ) → (0 < times p prerequisites → p < job) × (times p prerequisites ≤ 1)

abbrev pub IsJobGraph : List (List ℕ) → Type 0
IsJobGraph graph =
    (job p : ℕ)
    → job < length graph
    → (0 < times p (prerequisites_of graph job) → p < job)
    × (times p (prerequisites_of graph job) ≤ 1)

-- every mark is the mark of a smaller job
abbrev pub AreBelow : List (Option ℕ) → ℕ → Type 0
AreBelow marks job = (p : ℕ) → IfSome (slice_index_or marks p None) (λ mark. mark < job)

-- the jobs that name the job, if the first row is of the job `first`
abbrev pub naming_from : ℕ → List (List ℕ) → ℕ → List ℕ
naming_from first [] job = []
naming_from first (row ∷ rows) job =
    if nat_lt 0 (times job row)
    then first ∷ naming_from (suc first) rows job
    else naming_from (suc first) rows job

-- the jobs that name the job, in rising order: its edges go to them
abbrev pub targets_of : List (List ℕ) → ℕ → List ℕ
targets_of graph job = naming_from 0 graph job

-- how many jobs a job waits for at first
abbrev pub waiting_of : List (List ℕ) → ℕ → ℕ
waiting_of graph job = length (prerequisites_of graph job)

-- the targets of `count` jobs, from the job `first` on
abbrev pub targets_from : List (List ℕ) → ℕ → ℕ → List (List ℕ)
targets_from graph first zero = []
targets_from graph first (suc count) = targets_of graph first ∷ targets_from graph (suc first) count

abbrev pub targets_table : List (List ℕ) → List (List ℕ)
targets_table graph = targets_from graph 0 (length graph)
