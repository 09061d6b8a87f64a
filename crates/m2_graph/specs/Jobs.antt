-- The numbers of jobs.
use Rattle.std.specs.Prelude.{◌≡◌, ◌<◌, ◌≤◌, ℕ, ◌==◌, true, List, Option, Some, None, slice_index_or}
use Rattle.std.specs.List.{filter_map}
use Rattle.m2_graph.specs.Imports.{first_that}
use Rattle.graph_walk.specs.Links.{has, times, targets}

-- the place of a node in the order of the jobs
abbrev pub number_of : List ℕ → ℕ → Option ℕ
number_of order node = first_that (λ one. one == node) order

abbrev pub numbers_of : List ℕ → List ℕ → List ℕ
numbers_of order nodes = filter_map (number_of order) nodes

-- the place that a table gives a node
abbrev pub place_of : List (Option ℕ) → ℕ → Option ℕ
place_of places node = slice_index_or places node None

-- the table has the place of each node
abbrev pub ArePlaces : List ℕ → List (Option ℕ) → Type 0
ArePlaces order places = (node : ℕ) → place_of places node ≡ number_of order node

-- each place in the table is below this number
abbrev pub ArePlacesBelow : ℕ → List (Option ℕ) → Type 0
ArePlacesBelow n places = (node k : ℕ) → place_of places node ≡ Some k → k < n

-- the prerequisites of each job have smaller numbers, and stand once
abbrev pub AreJobs : List (List ℕ) → Type 0
AreJobs jobs =
    (job p : ℕ) → (has (targets jobs job) p ≡ true → p < job) × (times (targets jobs job) p ≤ 1)
