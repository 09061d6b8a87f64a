-- Definitions that wait for numbers of their imports.
use Rattle.std.specs.Prelude.{◌≡◌, ℕ, ◌+◌, ◌==◌, Bool, ◌&&◌, cond, List, length, map, slice_index_or}
use Rattle.std.specs.BinaryHeap.{heap_items}
use Rattle.graph_walk.specs.declared.least.Least.{Least}
use Rattle.graph_walk.specs.Links.{times}
use Rattle.graph_walk.specs.Numbering.{is_open}

-- the numbers that are held
abbrev pub numbers_in : Least → List ℕ
numbers_in l = map (λ r. r.0) (heap_items l.heap)

-- the count of a node
abbrev pub count_at : List ℕ → ℕ → ℕ
count_at counts node = slice_index_or counts node 0

-- These are the definitions without number whose count is zero, each once.
abbrev pub AreReady : (definitions done : List Bool) → (counts ready : List ℕ) → Type 0
AreReady definitions done counts ready =
    (k : ℕ) → times ready k ≡ cond (is_open definitions done k && (count_at counts k == 0)) 1 0

-- For each of these nodes one is settled, as often as it is there, and those that are ready then
-- are added.
pub record Settles (definitions done : List Bool) (nodes counts ready counts' ready' : List ℕ)
    : Type 0 where
  pub same : length counts' ≡ length counts
  pub counted : (k : ℕ) → count_at counts' k + times nodes k ≡ count_at counts k
  pub readied : AreReady definitions done counts ready → AreReady definitions done counts' ready'
