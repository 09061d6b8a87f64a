-- The first that passes a test.
use Rattle.std.proofs.Common.{◌≡◌, ◌<◌, ℕ, zero, suc, Bool, true, false, cond, List, [], ◌∷◌, get_or, take, refl, sym, ap, ◌∙◌, inl, inr, arith, Option, Some, None}
use Rattle.std.specs.Prelude.{slice_get}
use Rattle.std.specs.Option.{option_map, is_some}
use Rattle.std.proofs.lemmas.Option.{slice_get-get_or, none-some}
use Rattle.std.proofs.lemmas.Bool.{false≢true}
use Rattle.m2_graph.specs.Imports.{first_that}
use Rattle.m2_graph.proofs.Importing.{first_within}
use Rattle.m2_graph.proofs.Cycles.{passes}
use Rattle.law_graph.proofs.Lists.{Among, none_among, later_among, among_cases}

-- the element that was found
pub found_at : {X : Type 0} (test : X → Bool) (xs : List X) (i : ℕ) → first_that test xs ≡ Some i → (x : X)
    × (slice_get xs i ≡ Some x) × (test x ≡ true)
found_at test [] i e = absurd (none-some i e)
found_at test (x ∷ xs) i e = (
  get_or (x ∷ xs) i x,
  slice_get-get_or (x ∷ xs) i x (first_within test (x ∷ xs) i e),
  passes test (x ∷ xs) i x e,
)

some_from : (o : Option ℕ) → is_some o ≡ true → (i : ℕ) × (o ≡ Some i)
some_from None e = absurd (false≢true e)
some_from (Some i) e = (i, refl)

pub some_that : {X : Type 0} (test : X → Bool) (xs : List X) → is_some (first_that test xs) ≡ true → (i : ℕ)
    × (first_that test xs ≡ Some i)
some_that test xs e = some_from (first_that test xs) e

none_case : (b : Bool) (o : Option ℕ) → is_some (cond b (Some 0) (option_map suc o)) ≡ false → (b ≡ false)
    × (is_some o ≡ false)
none_case true o e = absurd (false≢true (sym e))
none_case false None e = (refl, refl)
none_case false (Some i) e = absurd (false≢true (sym e))

pub none_that : {X : Type 0} (test : X → Bool) (xs : List X) (x : X) → is_some (first_that test xs) ≡ false → Among xs x
    → test x ≡ false
none_that test [] x e a = absurd (none_among x a)
none_that test (y ∷ xs) x e a =
    let both = none_case (test y) (first_that test xs) e in
    elim (among_cases y xs x a) [ inl s ↦ ap test (sym s) ∙ both.0 | inr more ↦ none_that test xs x both.1 more ]

-- what stands before a place is among the elements that are taken
pub among_taken : {X : Type 0} (xs : List X) (j k : ℕ) (x : X) → slice_get xs j ≡ Some x → j < k → Among (take k xs) x
among_taken [] j k x e l = absurd (none-some x e)
among_taken (y ∷ xs) j zero x e l = absurd (omega arith)
among_taken (y ∷ xs) zero (suc k) x e l = (0, e)
among_taken (y ∷ xs) (suc j) (suc k) x e l = later_among y (take k xs) x (among_taken xs j k x e (omega arith))
