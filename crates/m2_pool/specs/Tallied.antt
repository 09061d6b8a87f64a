-- What the tally of a run says.
use Rattle.std.specs.Prelude.{◌≡◌, ℕ, List, ◌++◌, length, map, All, nat_lt, if◌then◌else◌}
use Rattle.pool_board.specs.Lists.{times, one_list}
use Rattle.pool_board.specs.Rule.{AreCounted, IsConsistent, IsSourced}
use Rattle.pool_board.specs.Seats.{SeatState, all_had, all_met, all_counts, without}

-- The lists are what as many seats had that kept the board's rule, and `left` is what none of them
-- had.
pub record IsTally (graph : List (List ℕ)) (workers : ℕ) (lists : List (List ℕ)) (left : List ℕ)
    : Type 0 where
  -- together the lists have each job once, and nothing else
  pub each : (number : ℕ)
      → times number (one_list lists ++ left) ≡ (if nat_lt number (length graph) then 1 else 0)
  pub seats : List SeatState
  pub count_is : length seats ≡ workers
  pub lists_are : lists ≡ map (λ s. s.had) seats
  pub left_is : left ≡ without (all_had seats) (length graph)
  -- the seats kept the board's rule
  pub consistent : IsConsistent graph (all_had seats) (all_met seats) (all_counts seats)
  pub sources : All (λ s. IsSourced s.had s.counts) seats
  -- each counted each edge of each job that it had, so no job waits for one of these in vain
  pub counted : All (λ s. AreCounted graph s.had s.counts) seats
