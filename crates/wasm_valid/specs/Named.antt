-- Names in a set, and in a list.
use Rattle.std.specs.Prelude.{ℕ, Bool, true, false, cond, List, [], ◌∷◌}
use Rattle.std.specs.Str.{bytes_eq}
use Rattle.std.specs.Borrow.{Bor}
use Rattle.std.specs.HashSet.{HashSet, contains_by}

abbrev pub holds : {S : Type 0} → HashSet (Bor (List ℕ)) S → List ℕ → Bool
holds names name = contains_by (λ k. bytes_eq name k.now) names

-- one of these is this name
abbrev pub is_among : List ℕ → List (List ℕ) → Bool
is_among n [] = false
is_among n (m ∷ ms) = cond (bytes_eq m n) true (is_among n ms)
