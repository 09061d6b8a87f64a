-- Numbers of which the least comes first.
use Rattle.std.proofs.Common.{◌≡◌, ◌≤◌, ℕ, ◌+◌, true, false, cond, ◌==◌, List, [], ◌∷◌, map, sym, ap, subst, ◌∙◌, inl, inr, refl, arith}
use Rattle.std.specs.List.{sum_by, AllByRecursion}
use Rattle.std.specs.List.Sorted.{IsPermutation}
use Rattle.std.specs.Ordering.{nat_cmp, is_lt}
use Rattle.std.proofs.lemmas.Bool.{false≢true, eqb-true}
use Rattle.std.proofs.lemmas.List.Sorted.{sum_by_pushed, sum_by_popped, IsPermutation-refl}
use Rattle.std.proofs.lemmas.Map.Keys.{ge_from_not_lt}
use Rattle.graph_walk.specs.Links.{has, times}
use Rattle.graph_walk.proofs.Chains.{or_true}

times_sum : {R : Type 0} (f : R → ℕ) (k : ℕ) (xs : List R) → times (map f xs) k ≡ sum_by (λ r. cond (f r == k) 1 0) xs
times_sum f k [] = refl
times_sum f k (x ∷ xs) = ap (λ n. cond (f x == k) 1 0 + n) (times_sum f k xs)
    ∙ sym (sum_by_pushed (λ r. cond (f r == k) 1 0) x xs (x ∷ xs) (IsPermutation-refl (x ∷ xs)))

pub times_pushed : {R : Type 0} (f : R → ℕ) (x : R) (xs ys : List R) → IsPermutation (x ∷ xs) ys → (k : ℕ)
    → times (map f ys) k ≡ times (map f xs) k + cond (f x == k) 1 0
times_pushed f x xs ys p k =
    let a = times_sum f k xs in
    let b = times_sum f k ys in
    let c = sum_by_pushed (λ r. cond (f r == k) 1 0) x xs ys p in
    omega (arith, a, b, c)

pub times_popped : {R : Type 0} (f : R → ℕ) (x : R) (xs ys : List R) → IsPermutation xs (x ∷ ys) → (k : ℕ)
    → times (map f xs) k ≡ times (map f ys) k + cond (f x == k) 1 0
times_popped f x xs ys p k =
    let a = times_sum f k xs in
    let b = times_sum f k ys in
    let c = sum_by_popped (λ r. cond (f r == k) 1 0) x xs ys p in
    omega (arith, a, b, c)

pub least_popped : {R : Type 0} (f : R → ℕ) (x : R) (xs : List R)
    → AllByRecursion (λ y. is_lt (nat_cmp (f y) (f x)) ≡ false) xs → (k : ℕ) → has (map f xs) k ≡ true → f x ≤ k
least_popped f x [] a k e = absurd (false≢true e)
least_popped f x (y ∷ ys) a k e = elim (or_true (f y == k) (has (map f ys) k) e) [
  | inl same ↦ subst (λ (n : ℕ). f x ≤ n) (eqb-true (f y) k same) (ge_from_not_lt (f y) (f x) a.0)
  | inr more ↦
      least_popped f x ys a.1 k more
]
