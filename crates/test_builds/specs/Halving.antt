-- The works of the tests: which graph a key has, and what its jobs give.
use Rattle.std.specs.Prelude.{◌≡◌, ℕ, ◌/◌, ◌==◌, if◌then◌else◌, List, [], ◌∷◌}

abbrev pub graph_of : ℕ → List (List ℕ)
graph_of key =
    if key == 8 then [] ∷ (0 ∷ []) ∷ (1 ∷ []) ∷ []
    else (if key == 9 then [] ∷ [] ∷ (0 ∷ 1 ∷ []) ∷ []
    else (if key == 10 then [] ∷ [] ∷ []
    else (if key == 20 then [] ∷ [] ∷ (0 ∷ []) ∷ (0 ∷ []) ∷ []
    else [] ∷ (0 ∷ []) ∷ (0 ∷ []) ∷ (1 ∷ 2 ∷ []) ∷ [])))

-- the key, or half the result of the first prerequisite
abbrev pub halved : ℕ → ℕ → List ℕ → ℕ
halved key job [] = key
halved key job (out ∷ outs) = out / 2

abbrev pub Halves : ℕ → ℕ → List ℕ → ℕ → Type 0
Halves key job outs x = x ≡ halved key job outs
