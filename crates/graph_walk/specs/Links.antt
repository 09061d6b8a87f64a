-- Pairs of nodes, and the chains that they make. Nodes are numbered from 0, and for each stands the
-- list of those to which a pair goes from it.
use Rattle.std.specs.Prelude.{◌≡◌, ◌<◌, ℕ, ◌+◌, Bool, true, false, cond, ◌||◌, ◌==◌, List, [], ◌∷◌, length, slice_index_or}
use Rattle.std.specs.List.{All}

-- whether the number is in the list
abbrev pub has : List ℕ → ℕ → Bool
has [] k = false
has (x ∷ xs) k = x == k || has xs k

-- how often the number is in the list
abbrev pub times : List ℕ → ℕ → ℕ
times [] k = 0
times (x ∷ xs) k = cond (x == k) 1 0 + times xs k

-- the numbers that have no mark, each at its first place
abbrev pub unless : (marked : ℕ → Bool) → List ℕ → List ℕ
unless marked [] = []
unless marked (x ∷ xs) =
    cond (marked x) (unless marked xs) (x ∷ unless (λ k. marked k || (x == k)) xs)

-- the one list has the numbers of the other, each once, in the order in which they first stand
-- there
abbrev pub AreEachOnce : List ℕ → List ℕ → Type 0
AreEachOnce once all = once ≡ unless (λ k. false) all

-- the nodes to which a pair goes from this one
abbrev pub targets : List (List ℕ) → ℕ → List ℕ
targets links node = slice_index_or links node []

-- whether the node is marked
abbrev pub flag : List Bool → ℕ → Bool
flag flags node = slice_index_or flags node false

-- each pair goes to a node
abbrev pub AreNodes : List (List ℕ) → Type 0
AreNodes links = All (λ ts. All (λ t. t < length links) ts) links

-- A chain of pairs leads from one node to another. A node from which one leads back to it is on a
-- cycle.
pub data Leads (links : List (List ℕ)) (from : ℕ) : ℕ → Type 0 where
  Pair : (to : ℕ) → has (targets links from) to ≡ true → Leads links from to
  Longer : (middle to : ℕ) → Leads links from middle → has (targets links middle) to ≡ true
      → Leads links from to
