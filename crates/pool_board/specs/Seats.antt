-- What a clause sees of a board and its seats.
use Rattle.std.specs.Prelude.{◌≡◌, ℕ, zero, suc, ◌+◌, ◌<◌, ◌≤◌, ◌==◌, if◌then◌else◌, List, [], ◌∷◌, ◌++◌, length, slice_index, slice_index_or}
use Rattle.atomic_table.specs.Seated.{TableId}
use Rattle.atomic_table.specs.Table.{Me}
use Rattle.pool_board.specs.declared.rule.Counted.{Counted}
use Rattle.pool_board.specs.declared.rule.Record.{Record}
use Rattle.pool_board.specs.Lists.{times, together}
use Rattle.pool_board.specs.Graph.{IsJobGraph}
use Rattle.pool_board.specs.Rule.{AreCounted, IsSourced}

abbrev pub max_workers : ℕ
max_workers = 64

-- which board it is, the jobs that the seat had, those that it found taken, and the edges that it
-- counted
pub record SeatState : Type 0 where
  pub board : TableId
  pub had : List ℕ
  pub met : List ℕ
  pub counts : List Counted

pub record BoardState : Type 0 where
  pub id : TableId
  pub graph : List (List ℕ)
  pub workers : ℕ

abbrev pub new_seat : TableId → SeatState
new_seat board = record { board = board; had = []; met = []; counts = [] }

-- a seat of the board whose worker has ended: it counted each edge of each job that it had
abbrev pub IsWorked : TableId → List (List ℕ) → SeatState → Type 0
IsWorked board graph seat = (seat.board ≡ board) × AreCounted graph seat.had seat.counts

-- all seats of the board
pub record IsAllSeats (board : BoardState) (seats : List SeatState) : Type 0 where
  pub count_is : length seats ≡ board.workers
  pub each : (k : ℕ) (d : SeatState) → k < length seats
      → (slice_index_or seats k d).board ≡ board.id

abbrev pub all_had : List SeatState → List ℕ
all_had seats = together (λ (s : SeatState). s.had) seats

abbrev pub all_met : List SeatState → List ℕ
all_met seats = together (λ (s : SeatState). s.met) seats

abbrev pub all_counts : List SeatState → List Counted
all_counts seats = together (λ (s : SeatState). s.counts) seats

-- the jobs below n that do not stand in the list, in rising order
abbrev pub without : List ℕ → ℕ → List ℕ
without had zero = []
without had (suc n) = if times n had == 0 then without had n ++ n ∷ [] else without had n

-- the places below n of words that are 0
abbrev pub unset : List ℕ → ℕ → List ℕ
unset words zero = []
unset words (suc n) = if slice_index words n == 0 then unset words n ++ n ∷ [] else unset words n

-- What is kept of a seat: its list is the one that the board's rule knows, and has room for each
-- job of the board
pub record IsSeat {S : Type 0} (words capacity : ℕ) (had : List ℕ) (me : Me S Record) : Type 0 where
  pub had_is : me.0.had ≡ had
  pub share_is : me.0.share ≡ 1
  pub free : me.1 ≡ []
  pub room : words ≤ suc (capacity + capacity)
  pub once : (job : ℕ) → times job had ≤ 1
  pub jobs : (job : ℕ) → 0 < times job had → suc (job + job) < words
  pub sourced : IsSourced had me.0.counts

-- What is kept of a board: its table was given its graph, and there is room for the tally
pub record IsBoard (graph answered : List (List ℕ))
    (workers answered_workers words slots lists_room jobs_room : ℕ) (lists : List (List ℕ))
    (unclaimed : List ℕ) : Type 0 where
  pub graph_is : answered ≡ graph
  pub workers_are : answered_workers ≡ workers
  pub is_graph : IsJobGraph graph
  pub words_are : words ≡ suc (length graph + length graph)
  pub slots_are : slots ≡ 0
  pub lists_empty : lists ≡ []
  pub lists_fit : workers ≤ lists_room
  pub jobs_empty : unclaimed ≡ []
  pub jobs_fit : length graph ≤ jobs_room
