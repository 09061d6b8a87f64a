-- Nodes on cycles, and the order in which they are found.
use Rattle.std.specs.Prelude.{◌≡◌, ◌<◌, ℕ, ◌&&◌, ◌||◌, Bool, true, List, [], ◌∷◌, ◌++◌, length, ◌↔◌, ◌⊎◌, IsTrue}
use Rattle.graph_walk.specs.Links.{has, targets, flag, Leads}

-- each node to which a pair goes from a marked one is marked
abbrev pub IsClosed : List (List ℕ) → List Bool → Type 0
IsClosed links flags =
    (k to : ℕ) → flag flags k ≡ true → has (targets links k) to ≡ true → flag flags to ≡ true

-- All nodes, in an order in which a node is on a cycle if one leads to it that does not stand
-- before it.
pub record IsCycleOrder (links : List (List ℕ)) (order : List ℕ) : Type 0 where
  pub whole : (k : ℕ) → k < length links → has order k ≡ true
  pub cycles : (before after : List ℕ) (node from : ℕ) → order ≡ before ++ node ∷ after
      → has (node ∷ after) from ≡ true → Leads links from node → Leads links node node

-- there is an order of this kind
abbrev pub HasCycleOrder : List (List ℕ) → Type 0
HasCycleOrder links = (order : List ℕ) × IsCycleOrder links order

-- Marks too where this node leads, and answers whether it leads back to itself, as these marks say.
pub record Sweeps (links : List (List ℕ)) (node : ℕ) (led cyclic led' cyclic' : List Bool)
    : Type 0 where
  pub same_led : length led' ≡ length led
  pub same_cyclic : length cyclic' ≡ length cyclic
  pub marked : (k : ℕ) → IsTrue (flag led' k) ↔ (IsTrue (flag led k) ⊎ Leads links node k)
  pub reported : (k : ℕ) → flag cyclic' k ≡ (flag cyclic k || (has (node ∷ []) k && flag led' k))
