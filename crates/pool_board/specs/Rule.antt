-- The rule of the board, which holds between any two steps.
-- Word `job` is the job's claim word, and word `length graph + job` its waiting word. One word more
-- lets a board without jobs have seats.
use Rattle.std.specs.Prelude.{◌≡◌, ℕ, suc, ◌+◌, ◌<◌, ◌≤◌, ◌==◌, ◌&&◌, if◌then◌else◌, List, [], length, slice_index}
use mathlib.Core.Option.{some}
use lib.ListN.{get_elem?}
use Rattle.atomic_table.specs.Table.{State}
use Rattle.pool_board.specs.declared.rule.Counted.{Counted}
use Rattle.pool_board.specs.declared.rule.Record.{Record}
use Rattle.pool_board.specs.Lists.{weigh, times, together}
use Rattle.pool_board.specs.Graph.{waiting_of, targets_of}

-- how often the edge was counted
abbrev pub count_of_edge : ℕ → ℕ → List Counted → ℕ
count_of_edge from edge counts =
    weigh (λ c. if (c.from == from) && (c.edge == edge) then 1 else 0) counts

-- the job to which a counted edge goes
abbrev pub target_of : List (List ℕ) → Counted → ℕ
target_of graph c = slice_index (targets_of graph c.from) c.edge

-- how many edges to the job were counted
abbrev pub counted_to : List (List ℕ) → ℕ → List Counted → ℕ
counted_to graph job counts = weigh (λ c. if target_of graph c == job then 1 else 0) counts

-- how often a count of an edge to the job left this number
abbrev pub left_at : List (List ℕ) → ℕ → ℕ → List Counted → ℕ
left_at graph job number counts =
    weigh (λ c. if (target_of graph c == job) && (c.left == number) then 1 else 0) counts

-- the sources of the edges that a seat counted were had by it
abbrev pub IsSourced : List ℕ → List Counted → Type 0
IsSourced had counts = (from edge : ℕ) → 0 < count_of_edge from edge counts → 0 < times from had

-- each edge of each job that a seat had was counted by it
abbrev pub AreCounted : List (List ℕ) → List ℕ → List Counted → Type 0
AreCounted graph had counts =
    (job edge : ℕ) → 0 < times job had → edge < length (targets_of graph job)
    → count_of_edge job edge counts ≡ 1

-- What holds of the lists of all seats together
pub record IsConsistent (graph : List (List ℕ)) (had met : List ℕ) (counts : List Counted)
    : Type 0 where
  -- no job was had twice, and only jobs were
  pub once : (job : ℕ) → times job had ≤ 1
  pub jobs : (job : ℕ) → 0 < times job had → job < length graph
  -- a job that was found taken was had
  pub met_had : (job : ℕ) → 0 < times job met → 0 < times job had
  -- no edge was counted twice, and only edges were
  pub edges : (from edge : ℕ) → 0 < count_of_edge from edge counts
      → edge < length (targets_of graph from)
  pub counted_once : (from edge : ℕ) → count_of_edge from edge counts ≤ 1
  -- if c of the p edges to a job were counted, the numbers left are p - 1 down to p - c, each once
  pub enough : (job : ℕ) → counted_to graph job counts ≤ waiting_of graph job
  pub left_once : (job number : ℕ) → waiting_of graph job ≤ counted_to graph job counts + number
      → number < waiting_of graph job → left_at graph job number counts ≡ 1
  pub left_within : (job number : ℕ)
      → 0 < left_at graph job number counts
      → (waiting_of graph job ≤ counted_to graph job counts + number)
      × (number < waiting_of graph job)

abbrev pub record_of : ℕ → List ℕ → List ℕ → List Counted → Record
record_of share had met counts = record { share = share; had = had; met = met; counts = counts }

-- a seat that did nothing
abbrev pub blank : ℕ → Record
blank share = record_of share [] [] []

abbrev pub had_of : Record → List ℕ
had_of v = v.had

abbrev pub met_of : Record → List ℕ
met_of v = v.met

abbrev pub counts_of : Record → List Counted
counts_of v = v.counts

-- the rule
pub record IsKept {S : Type 0} (graph : List (List ℕ)) (workers : ℕ) (s : State S Record)
    : Type 0 where
  pub words : length s.words ≡ suc (length graph + length graph)
  -- all shares together are the number of workers, and a seat with no share did nothing
  pub shares : weigh (λ (v : Record). v.share) s.views ≡ workers
  pub spent : (seat : ℕ) (v : Record) → get_elem? s.views seat ≡ some v → v.share ≡ 0 → v ≡ blank 0
  -- a claim word is 1 if the job was had, else 0
  pub claimed : (job : ℕ) → job < length graph
      → slice_index s.words job ≡ times job (together had_of s.views)
  -- a waiting word is the number of prerequisites less the number of the edges counted
  pub waits : (job : ℕ)
      → job < length graph
      → slice_index s.words (length graph + job) + counted_to graph job (together counts_of s.views)
      ≡ waiting_of graph job
  -- the source of a counted edge was had by the same seat
  pub sources : (seat : ℕ) (v : Record) → get_elem? s.views seat ≡ some v → IsSourced v.had v.counts
  pub consistent : IsConsistent graph (together had_of s.views) (together met_of s.views)
      (together counts_of s.views)

-- no job was claimed, and each waits for all its prerequisites
pub record IsFresh (graph : List (List ℕ)) (words : List ℕ) : Type 0 where
  pub length_is : length words ≡ suc (length graph + length graph)
  pub unclaimed : (job : ℕ) → job < length graph → slice_index words job ≡ 0
  pub waiting : (job : ℕ) → job < length graph
      → slice_index words (length graph + job) ≡ waiting_of graph job
