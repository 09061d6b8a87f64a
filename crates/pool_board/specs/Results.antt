-- The results of a graph's jobs: one answer, of which each part comes of the parts before it, and
-- the case that one definition gives them.
use Rattle.std.specs.Prelude.{◌≡◌, ℕ, zero, suc, List, [], ◌∷◌, ◌++◌, length, map, slice_get, Option, Some, None}
use Rattle.pool_board.specs.Graph.{prerequisites_of}

-- an item, put before others if it is there
abbrev pub with_item : {X : Type 0} → Option X → List X → List X
with_item None xs = xs
with_item (Some x) xs = x ∷ xs

-- the items at these places
abbrev pub items_at : {X : Type 0} → List X → List ℕ → List X
items_at xs [] = []
items_at xs (p ∷ ps) = with_item (slice_get xs p) (items_at xs ps)

-- the results of the first n jobs, if `defined job outs` is a job's result from the results of its
-- prerequisites
abbrev pub results_below : {X : Type 0} → List (List ℕ) → (ℕ → List X → X) → ℕ → List X
results_below graph defined zero = []
results_below graph defined (suc n) =
    let before = results_below graph defined n in
    before ++ defined n (items_at before (prerequisites_of graph n)) ∷ []

abbrev pub results : {X : Type 0} → List (List ℕ) → (ℕ → List X → X) → List X
results graph defined = results_below graph defined (length graph)

-- each of the results of the first jobs comes of the results answered for its prerequisites
abbrev pub AreCoherent : {X : Type 0} → List (List ℕ) → (defines : ℕ → List X → X → Type 0) → List X
    → Type 0
AreCoherent {X} graph defines xs = (job : ℕ) (x : X) → slice_get xs job ≡ Some x
    → defines job (items_at xs (prerequisites_of graph job)) x

-- The results of all jobs are one answer, if `defines job outs x` says that x may come of a job
-- from these results of its prerequisites.
pub record AreResults {X : Type 0} (graph : List (List ℕ)) (defines : ℕ → List X → X → Type 0)
    (xs : List X) : Type 0 where
  pub count_is : length xs ≡ length graph
  pub coherent : AreCoherent graph defines xs

-- x may stand in the place of a result: it comes of the same jobs, and the same comes of it
pub record IsCopy {X : Type 0} (defines : ℕ → List X → X → Type 0) (out x : X) : Type 0 where
  pub comes : (job : ℕ) (outs : List X) → defines job outs out → defines job outs x
  pub serves : (job : ℕ) (before after : List X) (y : X)
      → defines job (before ++ out ∷ after) y → defines job (before ++ x ∷ after) y

-- The cell of this name is the cell of the job, and what is known of it may come of the job from
-- what is known of the prerequisites' cells. The names are the names of the cells of all jobs.
pub record IsRan {X : Type 0} (names : List ℕ) (graph : List (List ℕ))
    (defines : ℕ → List X → X → Type 0) (job cell : ℕ) (known : Option X) (used : List ℕ)
    (used_known : List (Option X)) : Type 0 where
  pub cell_is : slice_get names job ≡ Some cell
  pub used_are : used ≡ items_at names (prerequisites_of graph job)
  pub outs : List X
  pub x : X
  pub outs_are : used_known ≡ map Some outs
  pub x_is : known ≡ Some x
  pub defined : defines job outs x

-- x may come of the job from what is known of the prerequisites' cells, whose names these are.
pub record IsMade {X : Type 0} (names : List ℕ) (graph : List (List ℕ))
    (defines : ℕ → List X → X → Type 0) (job : ℕ) (x : X) (used : List ℕ)
    (used_known : List (Option X)) : Type 0 where
  pub used_are : used ≡ items_at names (prerequisites_of graph job)
  pub outs : List X
  pub outs_are : used_known ≡ map Some outs
  pub defined : defines job outs x
