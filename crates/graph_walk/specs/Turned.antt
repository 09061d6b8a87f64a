-- Pairs the other way round.
use Rattle.std.specs.Prelude.{◌≡◌, ◌<◌, ℕ, ◌+◌, ◌==◌, nat_lt, cond, List, length}
use Rattle.graph_walk.specs.Links.{times, targets}

-- A pair to this node is added to the rows of these nodes, as often as they are there.
pub record Gathers (nodes : List ℕ) (to : ℕ) (rows rows' : List (List ℕ)) : Type 0 where
  pub same : length rows' ≡ length rows
  pub pairs : (node k : ℕ)
      → times (targets rows' node) k
      ≡ times (targets rows node) k + cond (to == k) (times nodes node) 0

-- The pairs the other way round, as often as they are there, and behind them a node from which a
-- pair goes to each.
pub record IsTurned (links back : List (List ℕ)) : Type 0 where
  pub many : length back ≡ length links + 1
  pub pairs : (from to : ℕ) → to < length links
      → times (targets back to) from ≡ times (targets links from) to
  pub root : (k : ℕ) → times (targets back (length links)) k ≡ cond (nat_lt k (length links)) 1 0
