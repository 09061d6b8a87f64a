-- Lists of names with what each stands for.
use Rattle.std.specs.Prelude.{ℕ, Bool, cond, List, [], ◌∷◌, Option, Some, None}
use Rattle.std.specs.List.{position}
use Rattle.m2_tree.specs.Names.{same_name}

module _ {V : Type 0} where
  abbrev pub find_name : List ℕ → List (List ℕ × V) → Option V
  find_name name [] = None
  find_name name (e ∷ es) = cond (same_name name e.0) (Some e.1) (find_name name es)

  abbrev pub place_of : List ℕ → List (List ℕ × V) → Option ℕ
  place_of name es = position (λ e. same_name name e.0) es

  -- a new name goes to the end, and one that is there keeps its place
  abbrev pub enter_name : List ℕ → V → List (List ℕ × V) → List (List ℕ × V)
  enter_name name value [] = (name, value) ∷ []
  enter_name name value (e ∷ es) =
      cond (same_name name e.0) ((e.0, value) ∷ es) (e ∷ enter_name name value es)
