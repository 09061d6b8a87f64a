-- What the gatherer knows of a settled job.
use Rattle.std.specs.Prelude.{◌≡◌, ℕ, Bool, List, map, slice_get, slice_index_or, Option, Some, None, is_some}
use Rattle.std.specs.List.{list_all}
use Rattle.pool_board.specs.Results.{IsCopy}

-- The cell of this name is the cell of the job, and it is known what it holds. The names are the
-- names of the cells of all jobs.
pub record IsSettled {X : Type 0} (names : List ℕ) (job cell : ℕ) (known : Option X) : Type 0 where
  pub cell_is : slice_get names job ≡ Some cell
  pub out : X
  pub out_is : known ≡ Some out

-- what was answered for a settled job is a copy of what its cell holds
pub record IsAnswered {X : Type 0} (names : List ℕ) (defines : ℕ → List X → X → Type 0)
    (answers : List X) (job cell : ℕ) (known : Option X) : Type 0 where
  pub settled : IsSettled names job cell known
  pub x : X
  pub x_is : slice_get answers job ≡ Some x
  pub copy : IsCopy defines settled.out x

abbrev pub known_in : {N X : Type 0} → (known : N → Option X) → Option N → Option X
known_in known None = None
known_in known (Some note) = known note

-- what the note at a place knows, if one is there
abbrev pub known_at : {N X : Type 0} → (known : N → Option X) → List (Option N) → ℕ → Option X
known_at known notes p = known_in known (slice_index_or notes p None)

-- x may come of the job from what the notes of its prerequisites know
pub record IsFounded {N X : Type 0} (known : N → Option X) (notes : List (Option N))
    (defines : ℕ → List X → X → Type 0) (prerequisites : List ℕ) (job : ℕ) (x : X) : Type 0 where
  pub outs : List X
  pub known_are : map (known_at known notes) prerequisites ≡ map Some outs
  pub defined : defines job outs x

-- whether all of these jobs have a note
abbrev pub all_settled : {N : Type 0} → List (Option N) → List ℕ → Bool
all_settled notes jobs = list_all (λ p. is_some (slice_index_or notes p None)) jobs
