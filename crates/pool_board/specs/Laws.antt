-- What follows for the seats of a board from what holds of all their lists together.
use Rattle.std.specs.Prelude.{◌≡◌, ℕ, ◌<◌, ◌≤◌, ◌↔◌, List, length, slice_index_or}
use Rattle.pool_board.specs.declared.rule.Counted.{Counted}
use Rattle.pool_board.specs.Lists.{times}
use Rattle.pool_board.specs.Graph.{waiting_of}
use Rattle.pool_board.specs.Rule.{counted_to, left_at}
use Rattle.pool_board.specs.Seats.{SeatState, all_met}

-- the seat at the place i has the job
abbrev pub Has : List SeatState → ℕ → ℕ → Type 0
Has seats i job =
    (i < length seats) × ((d : SeatState) → 0 < times job (slice_index_or seats i d).had)

-- no two seats have one job
abbrev pub NoJobTwice : List SeatState → Type 0
NoJobTwice seats = (job i k : ℕ) → Has seats i job → Has seats k job → i ≡ k

-- a job that a seat found taken is some seat's
abbrev pub TakenIsHad : List SeatState → Type 0
TakenIsHad seats = (job : ℕ) → 0 < times job (all_met seats) → (i : ℕ) × Has seats i job

-- how many counts of edges to the job were answered that they ended its wait
abbrev pub answers_to : List (List ℕ) → ℕ → List Counted → ℕ
answers_to graph job counts = left_at graph job 0 counts

-- at most one count was answered that it ended a job's wait, and one was exactly if all edges to
-- the job were counted
abbrev pub AnsweredOnce : List (List ℕ) → List Counted → Type 0
AnsweredOnce graph counts =
    (job : ℕ)
    → (answers_to graph job counts ≤ 1)
    × (0 < waiting_of graph job
    → (answers_to graph job counts ≡ 1) ↔ (counted_to graph job counts ≡ waiting_of graph job))
