-- Walks over the entries of a list.
use Rattle.std.proofs.Common.{◌≡◌, ◌≤◌, ℕ, zero, suc, ◌+◌, ◌-◌, List, [], ◌∷◌, length, take, drop, Option, None, refl, sym, ap, ◌∙◌, arith, add-one, length-drop}
use Rattle.std.specs.Prelude.{slice_get}
use Rattle.std.specs.List.{fold}
use Rattle.check_definition.specs.Steps.{if_some}

step : {A X : Type 0} (f : A → X → A) (a : A) (xs : List X) (i : ℕ)
    → if_some f (fold f a (take i xs)) (slice_get xs i) ≡ fold f a (take (suc i) xs)
step f a [] zero = refl
step f a [] (suc i) = refl
step f a (x ∷ xs) zero = refl
step f a (x ∷ xs) (suc i) = step f (f a x) xs i

pub step_at : {A X : Type 0} (f : A → X → A) (a : A) (xs : List X) (i : ℕ)
    → if_some f (fold f a (take i xs)) (slice_get xs i) ≡ fold f a (take (i + 1) xs)
step_at f a xs i = step f a xs i ∙ ap (λ (n : ℕ). fold f a (take n xs)) (sym (add-one i))

-- one more entry in a walk over a list
pub walked : {A X : Type 0} (f : A → X → A) (a : A) (xs : List X) (i : ℕ) (old new : A) (o : Option X)
    → old ≡ fold f a (take i xs) → o ≡ slice_get xs i → new ≡ if_some f old o → new ≡ fold f a (take (i + 1) xs)
walked f a xs i old new o h k e = e ∙ ap (λ o. if_some f old o) k ∙ ap (λ x. if_some f x (slice_get xs i)) h
    ∙ step_at f a xs i

nothing_there : (X : Type 0) (n : ℕ) → slice_get {X = X} [] n ≡ None
nothing_there X zero = refl
nothing_there X (suc n) = refl

get_dropped : {X : Type 0} (xs : List X) (first k n : ℕ) → n ≡ first + k → slice_get xs n ≡ slice_get (drop first xs) k
get_dropped [] zero k n e = let h : n ≡ k = omega (arith, e) in ap (λ (m : ℕ). slice_get [] m) h
get_dropped {X = X} [] (suc first) k n e = nothing_there X n ∙ sym (nothing_there X k)
get_dropped (x ∷ xs) zero k n e = let h : n ≡ k = omega (arith, e) in ap (λ (m : ℕ). slice_get (x ∷ xs) m) h
get_dropped (x ∷ xs) (suc first) k zero e = absurd (omega (arith, e))
get_dropped (x ∷ xs) (suc first) k (suc n) e = get_dropped xs first k n (omega (arith, e))

-- the same, from a place on
pub walked_from : {A X : Type 0} (f : A → X → A) (a : A) (xs : List X) (first i : ℕ) (old new : A) (o : Option X)
    → old ≡ fold f a (take i (drop first xs)) → o ≡ slice_get xs (first + i) → new ≡ if_some f old o
    → new ≡ fold f a (take (i + 1) (drop first xs))
walked_from f a xs first i old new o h k e =
    walked f a (drop first xs) i old new o h (k ∙ get_dropped xs first i (first + i) refl) e

-- all that is left
taken : {X : Type 0} (xs : List X) (m n : ℕ) → length xs ≤ m → length xs ≤ n → take m xs ≡ take n xs
taken [] zero zero p q = refl
taken [] zero (suc n) p q = refl
taken [] (suc m) zero p q = refl
taken [] (suc m) (suc n) p q = refl
taken (x ∷ xs) zero n p q = absurd (omega (arith, p))
taken (x ∷ xs) (suc m) zero p q = absurd (omega (arith, q))
taken (x ∷ xs) (suc m) (suc n) p q = ap (λ ys. x ∷ ys) (taken xs m n (omega (arith, p)) (omega (arith, q)))

pub taken_left : {X : Type 0} (xs : List X) (first left count : ℕ) → left ≡ length xs - first → left ≤ count
    → take left (drop first xs) ≡ take count (drop first xs)
taken_left xs first left count e l = taken (drop first xs) left count (rw length-drop (omega (arith, e)))
    (rw length-drop (omega (arith, e, l)))
