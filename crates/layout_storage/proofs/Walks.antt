-- Walks over the entries of a list.
use Rattle.std.proofs.Common.{◌≡◌, ℕ, zero, suc, ◌+◌, List, [], ◌∷◌, take, Option, refl, sym, ap, ◌∙◌, add-one}
use Rattle.std.specs.Prelude.{slice_get}
use Rattle.std.specs.List.{fold}
use Rattle.layout_storage.specs.Steps.{if_some}

step : {A X : Type 0} (f : A → X → A) (a : A) (xs : List X) (i : ℕ)
    → if_some f (fold f a (take i xs)) (slice_get xs i) ≡ fold f a (take (suc i) xs)
step f a [] zero = refl
step f a [] (suc i) = refl
step f a (x ∷ xs) zero = refl
step f a (x ∷ xs) (suc i) = step f (f a x) xs i

pub step_at : {A X : Type 0} (f : A → X → A) (a : A) (xs : List X) (i : ℕ)
    → if_some f (fold f a (take i xs)) (slice_get xs i) ≡ fold f a (take (i + 1) xs)
step_at f a xs i = step f a xs i ∙ ap (λ (n : ℕ). fold f a (take n xs)) (sym (add-one i))

-- one more entry in a walk over a list
pub walked : {A X : Type 0} (f : A → X → A) (a : A) (xs : List X) (i : ℕ) (old new : A) (o : Option X)
    → old ≡ fold f a (take i xs) → o ≡ slice_get xs i → new ≡ if_some f old o → new ≡ fold f a (take (i + 1) xs)
walked f a xs i old new o h k e = e ∙ ap (λ o. if_some f old o) k ∙ ap (λ x. if_some f x (slice_get xs i)) h
    ∙ step_at f a xs i
