-- How many elements pass a test.
use Rattle.std.proofs.Common.{◌≡◌, ◌<◌, ◌≤◌, ℕ, zero, suc, ◌+◌, Bool, true, false, cond, ◌==◌, List, [], ◌∷◌, ◌++◌, map, take, refl, sym, ap, ◌∙◌, inl, inr, arith, Some}
use Rattle.std.specs.Prelude.{slice_get}
use Rattle.std.specs.List.{sum_by}
use Rattle.std.specs.List.Sorted.{IsPermutation}
use Rattle.std.specs.Option.{is_some}
use Rattle.std.proofs.lemmas.Bool.{false≢true, cases_Bool}
use Rattle.std.proofs.lemmas.List.Sorted.{IsPermutation-refl, sum_by-IsPermutation, sum_by_pushed}
use Rattle.std.proofs.lemmas.Option.{none-some, same_Some}
use Rattle.graph_walk.specs.Links.{times}
use Rattle.m2_graph.specs.Imports.{first_that}
use Rattle.law_graph.proofs.Lists.{Among, later_among}
use Rattle.law_graph.proofs.Passing.{none_that}

unfoldable pub count : {X : Type 0} → (X → Bool) → List X → ℕ
count p [] = 0
count p (x ∷ xs) = cond (p x) 1 0 + count p xs

count_sum : {X : Type 0} (p : X → Bool) (xs : List X) → count p xs ≡ sum_by (λ (x : X). cond (p x) 1 0) xs
unfolding count
count_sum p [] = refl
count_sum {X} p (x ∷ xs) = ap (λ (n : ℕ). cond (p x) 1 0 + n) (count_sum p xs)
    ∙ sym (sum_by_pushed (λ (y : X). cond (p y) 1 0) x xs (x ∷ xs) (IsPermutation-refl (x ∷ xs)))

pub count-permutation : {X : Type 0} (p : X → Bool) (xs ys : List X) → IsPermutation xs ys → count p ys ≡ count p xs
count-permutation {X} p xs ys s = count_sum p ys ∙ sum_by-IsPermutation (λ (x : X). cond (p x) 1 0) xs ys s
    ∙ sym (count_sum p xs)

pub count-append : {X : Type 0} (p : X → Bool) (xs ys : List X) → count p (xs ++ ys) ≡ count p xs + count p ys
unfolding count
count-append p [] ys = omega arith
count-append p (x ∷ xs) ys = let e = count-append p xs ys in omega (arith, e)

by_test : (b : Bool) (m n : ℕ) → m ≡ cond b 1 0 + n → b ≡ false → m ≡ n
by_test true m n e f = absurd (false≢true (sym f))
by_test false m n e f = omega (arith, e)

pub count_none : {X : Type 0} (p : X → Bool) (xs : List X) → ((x : X) → Among xs x → p x ≡ false) → count p xs ≡ 0
unfolding count
count_none p [] h = refl
count_none p (x ∷ xs) h = by_test (p x) (count p (x ∷ xs)) (count p xs) refl (h x (0, refl))
    ∙ count_none p xs (λ y a. h y (later_among x xs y a))

fewer : (b c : Bool) (m n : ℕ) → (b ≡ true → c ≡ true) → m ≤ n → cond b 1 0 + m ≤ cond c 1 0 + n
fewer true true m n h l = omega (arith, l)
fewer true false m n h l = absurd (false≢true (h refl))
fewer false true m n h l = omega (arith, l)
fewer false false m n h l = omega (arith, l)

pub count_fewer : {X : Type 0} (p q : X → Bool) (xs : List X) → ((x : X) → Among xs x → p x ≡ true → q x ≡ true)
    → count p xs ≤ count q xs
unfolding count
count_fewer p q [] h = omega arith
count_fewer p q (x ∷ xs) h = fewer (p x) (q x) (count p xs) (count q xs) (h x (0, refl))
    (count_fewer p q xs (λ y a. h y (later_among x xs y a)))

pub times_count : {X : Type 0} (f : X → ℕ) (k : ℕ) (xs : List X) → times (map f xs) k ≡ count (λ (x : X). f x == k) xs
unfolding count
times_count f k [] = refl
times_count f k (x ∷ xs) = ap (λ (n : ℕ). cond (f x == k) 1 0 + n) (times_count f k xs)

counted : (b : Bool) (n : ℕ) → b ≡ true → 1 ≤ cond b 1 0 + n
counted true n e = omega arith
counted false n e = absurd (false≢true e)

-- one that passes, and two
once : {X : Type 0} (p : X → Bool) (xs : List X) (k : ℕ) (x : X) → slice_get xs k ≡ Some x → p x ≡ true → 1 ≤ count p xs
unfolding count
once p [] k x e h = absurd (none-some x e)
once p (y ∷ xs) zero x e h = counted (p y) (count p xs) (ap p (same_Some y x e) ∙ h)
once p (y ∷ xs) (suc k) x e h = let l = once p xs k x e h in omega (arith, l)

pub twice : {X : Type 0} (p : X → Bool) (xs : List X) (j k : ℕ) (x y : X) → j < k → slice_get xs j ≡ Some x
    → slice_get xs k ≡ Some y → p x ≡ true → p y ≡ true → 2 ≤ count p xs
unfolding count
twice p [] j k x y l e f g h = absurd (none-some x e)
twice p (z ∷ xs) j zero x y l e f g h = absurd (omega arith)
twice p (z ∷ xs) zero (suc k) x y l e f g h = let m = once p xs k y f h in
    more (p z) (count p xs) (ap p (same_Some z x e) ∙ g) m
  where
    more : (b : Bool) (n : ℕ) → b ≡ true → 1 ≤ n → 2 ≤ cond b 1 0 + n
    more true n e l = omega arith
    more false n e l = absurd (false≢true e)
twice p (z ∷ xs) (suc j) (suc k) x y l e f g h = let m = twice p xs j k x y (omega arith) e f g h in omega (arith, m)

-- what stands in a place of those that are taken
pub taken_at : {X : Type 0} (k : ℕ) (xs : List X) (j : ℕ) (x : X) → slice_get (take k xs) j ≡ Some x
    → (slice_get xs j ≡ Some x) × (j < k)
taken_at zero xs j x e = absurd (none-some x e)
taken_at (suc k) [] j x e = absurd (none-some x e)
taken_at (suc k) (y ∷ xs) zero x e = (e, omega arith)
taken_at (suc k) (y ∷ xs) (suc j) x e = let r = taken_at k xs j x e in (r.0, (let l = r.1 in omega (arith, l)))

-- The first of a list is found that has one.
pub some_among : {X : Type 0} (test : X → Bool) (xs : List X) (x : X) → Among xs x → test x ≡ true
    → is_some (first_that test xs) ≡ true
some_among test xs x a h = elim (cases_Bool (is_some (first_that test xs)))
    [ inl e ↦ e | inr e ↦ absurd (false≢true (sym (none_that test xs x e a) ∙ h)) ]
