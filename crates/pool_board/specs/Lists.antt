-- Words on lists.
use Rattle.std.specs.Prelude.{ℕ, ◌+◌, ◌==◌, if◌then◌else◌, List, [], ◌∷◌, ◌++◌}

-- the weights of the items, added up
abbrev pub weigh : {X : Type 0} → (X → ℕ) → List X → ℕ
weigh h [] = 0
weigh h (x ∷ xs) = h x + weigh h xs

-- how often x stands in the list
abbrev pub times : ℕ → List ℕ → ℕ
times x xs = weigh (λ y. if y == x then 1 else 0) xs

-- the lists of all, one after another
abbrev pub together : {S A : Type 0} → (S → List A) → List S → List A
together f [] = []
together f (s ∷ ss) = f s ++ together f ss

-- the lists, one after another
abbrev pub one_list : List (List ℕ) → List ℕ
one_list rows = together (λ (row : List ℕ). row) rows
