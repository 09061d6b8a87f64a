-- What it means to mark nodes.
use Rattle.std.specs.Prelude.{◌≡◌, ◌≤◌, ℕ, ◌+◌, Bool, false, not, ◌&&◌, ◌||◌, List, [], ◌∷◌, ◌++◌, length, cond}
use Rattle.graph_walk.specs.Links.{has, times, flag, unless}

-- what is left of a walk: for each node that is not marked, its pairs and two
abbrev pub weight : List (List ℕ) → List Bool → ℕ
weight links [] = 0
weight [] (b ∷ bs) = cond b 0 2 + weight [] bs
weight (l ∷ ls) (b ∷ bs) = cond b 0 (length l + 2) + weight ls bs

-- These nodes get marks, and those that had none stand then among the nodes to be done.
pub record Marks (nodes : List ℕ) (flags : List Bool) (todo : List ℕ) (flags' : List Bool)
    (todo' : List ℕ) : Type 0 where
  pub same : length flags' ≡ length flags
  pub marked : (k : ℕ) → flag flags' k ≡ (flag flags k || has nodes k)
  pub added : (k : ℕ) → has todo' k ≡ (has todo k || (has nodes k && not (flag flags k)))
  pub once : (k : ℕ) → times todo' k ≡ times todo k + cond (has nodes k && not (flag flags k)) 1 0
  pub order : todo' ≡ todo ++ unless (flag flags) nodes
  pub lighter : weight [] flags' + length todo' ≤ weight [] flags + length todo

-- These nodes lose their marks.
pub record Unmarks (nodes : List ℕ) (flags flags' : List Bool) : Type 0 where
  pub same : length flags' ≡ length flags
  pub left : (k : ℕ) → flag flags' k ≡ (flag flags k && not (has nodes k))

-- no node is marked
abbrev pub AreUnmarked : List Bool → Type 0
AreUnmarked flags = (k : ℕ) → flag flags k ≡ false
