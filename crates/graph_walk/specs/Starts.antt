-- The order in which bodies start: the walk of nodes with the list of those already entered.
use Rattle.std.specs.Prelude.{◌≡◌, ℕ, true, false, List, [], ◌∷◌, ◌++◌}
use Rattle.graph_walk.specs.Links.{has, targets}

-- what is walked: one node, or several one after another
pub data Walked : Type 0 where
  One : (node : ℕ) → Walked
  Each : (nodes : List ℕ) → Walked

-- From the nodes already entered the walk starts these nodes, and has then entered those. A node
-- that is entered walks its imports first, and then starts.
pub data Walks (imports : List (List ℕ)) : Walked → (entered started later : List ℕ) → Type 0 where
  Again : (node : ℕ) (entered : List ℕ) → has entered node ≡ true
      → Walks imports (One node) entered [] entered
  Enters : (node : ℕ) (entered started later : List ℕ) → has entered node ≡ false →
      Walks imports (Each (targets imports node)) (node ∷ entered) started later →
      Walks imports (One node) entered (started ++ node ∷ []) later
  Nothing : (entered : List ℕ) → Walks imports (Each []) entered [] entered
  Then : (node : ℕ) (nodes entered first between rest later : List ℕ)
      → Walks imports (One node) entered first between
      → Walks imports (Each nodes) between rest later
      → Walks imports (Each (node ∷ nodes)) entered (first ++ rest) later

-- the order in which the nodes that are reached from this one start
abbrev pub IsStartOrder : List (List ℕ) → (from : ℕ) → List ℕ → Type 0
IsStartOrder imports from order = (later : List ℕ) × Walks imports (One from) [] order later
