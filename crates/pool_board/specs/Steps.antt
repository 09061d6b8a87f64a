-- What each step on the board's words answers the seat that makes it.
use Rattle.std.specs.Prelude.{◌≡◌, ℕ, suc, ◌+◌, ◌-◌, ◌<◌, ◌==◌, List, [], ◌∷◌, ◌++◌, MatchBool, length, slice_index}
use Rattle.atomic_table.specs.Table.{Me, Step}
use Rattle.pool_board.specs.declared.rule.Counted.{Counted}
use Rattle.pool_board.specs.declared.rule.Record.{Record}
use Rattle.atomic_table.specs.Seated.{TableId}
use Rattle.pool_board.specs.Lists.{times}
use Rattle.pool_board.specs.Graph.{IsJobGraph, targets_of}
use Rattle.pool_board.specs.Rule.{record_of, count_of_edge}

abbrev pub with_had : Record → ℕ → Record
with_had v job = record_of v.share (v.had ++ job ∷ []) v.met v.counts

abbrev pub with_met : Record → ℕ → Record
with_met v job = record_of v.share v.had (v.met ++ job ∷ []) v.counts

abbrev pub with_count : Record → Counted → Record
with_count v c = record_of v.share v.had v.met (v.counts ++ c ∷ [])

abbrev pub count_of : ℕ → ℕ → ℕ → Counted
count_of from edge left = record { from = from; edge = edge; left = left }

module _ {S : Type 0} where
  -- a claim word that was 0 gives the job to the seat, which did not have it, and else it answers
  -- that the job was taken
  abbrev pub Claims : Step S → Me S Record → ℕ → Me S Record → Type 0
  Claims st m found m' =
      (m'.1 ≡ m.1)
      × MatchBool (found == 0) ((m'.0 ≡ with_had m.0 st.word) × (times st.word m.0.had ≡ 0))
      (m'.0 ≡ with_met m.0 st.word)

  -- a waiting word that was one more is now the number left
  abbrev pub CountsDown : ℕ → ℕ → Step S → Me S Record → ℕ → Me S Record → Type 0
  CountsDown from edge st m found m' =
      (m'.1 ≡ m.1)
      × ((left : ℕ) × (found ≡ suc left) × (m'.0 ≡ with_count m.0 (count_of from edge left)))

-- one share is cut off a record
abbrev pub less_one : Record → Record
less_one v = record_of (v.share - 1) v.had v.met v.counts

abbrev pub join_records : Record → Record → Record
join_records v w =
    record_of (v.share + w.share) (v.had ++ w.had) (v.met ++ w.met) (v.counts ++ w.counts)

-- The seat may count the edge down, at this word
pub record Counts (table : TableId) (graph : List (List ℕ)) (from edge waiting : ℕ) (seat : TableId)
    (v : Record) : Type 0 where
  pub seat_is : seat ≡ table
  pub is_graph : IsJobGraph graph
  pub words_are : table.words ≡ suc (length graph + length graph)
  pub edge_is : edge < length (targets_of graph from)
  pub waiting_is : waiting ≡ length graph + slice_index (targets_of graph from) edge
  pub fresh : count_of_edge from edge v.counts ≡ 0
  pub had : 0 < times from v.had
  pub share : 0 < v.share
