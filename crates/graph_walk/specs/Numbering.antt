-- The order in which definitions are numbered.
use Rattle.std.specs.Prelude.{◌≡◌, ◌<◌, ℕ, Bool, true, false, not, ◌&&◌, List, length, take, slice_index}
use Rattle.std.specs.List.{list_all}
use Rattle.graph_walk.specs.Links.{has, targets, flag}

-- a definition without number
abbrev pub is_open : List Bool → List Bool → ℕ → Bool
is_open definitions done node = flag definitions node && not (flag done node)

-- a definition that has no number, and to whose imports all numbers were given
abbrev pub is_ready : List (List ℕ) → (definitions : List Bool) → (done : ℕ → Bool) → ℕ → Bool
is_ready links definitions done node =
    (flag definitions node && not (done node)) && list_all done (targets links node)

-- the first definition that is ready
pub record IsNext (links : List (List ℕ)) (definitions : List Bool) (done : ℕ → Bool) (node : ℕ)
    : Type 0 where
  pub ready : is_ready links definitions done node ≡ true
  pub first : (other : ℕ) → other < node → is_ready links definitions done other ≡ false

-- Each in turn is the first that was ready then, and in the end none is.
pub record IsNumbering (links : List (List ℕ)) (definitions : List Bool) (order : List ℕ)
    : Type 0 where
  pub each : (k : ℕ) → k < length order
      → IsNext links definitions (has (take k order)) (slice_index order k)
  pub whole : (node : ℕ) → is_ready links definitions (has order) node ≡ false
