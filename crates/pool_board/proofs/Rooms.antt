-- A list of jobs without repeats has room for each job.
use Rattle.std.proofs.Common.{◌≡◌, ℕ, eqb, subst, zero, suc, ◌<◌, ◌≤◌, ◌≢◌, List, [], ◌∷◌, length, refl, ⊎_elim, arith}
use Rattle.pool_board.specs.Lists.{weigh, times}
use Rattle.pool_board.proofs.Consistent.{bit, one_if, weigh_swap}

-- the numbers below n, the greatest first
below : ℕ → List ℕ
below zero = []
below (suc n) = n ∷ below n

below-length : (n : ℕ) → length (below n) ≡ n
unfolding below
below-length zero = refl
below-length (suc n) = omega (arith, below-length n)

below_none : (n x : ℕ) → n ≤ x → weigh (λ i. bit (eqb x i)) (below n) ≡ 0
unfolding below
below_none zero x l = refl
below_none (suc n) x l = ⊎_elim (λ (t : (x ≡ n) × (bit (eqb x n) ≡ 1)). absurd (omega arith))
    (λ (t : (x ≢ n) × (bit (eqb x n) ≡ 0)). let off : bit (eqb x n) ≡ 0 = t.1 in
    omega (arith, below_none n x (omega arith))) (one_if x n)

below_one : (n x : ℕ) → x < n → weigh (λ i. bit (eqb x i)) (below n) ≡ 1
unfolding below
below_one zero x l = absurd (omega arith)
below_one (suc n) x l = ⊎_elim (λ (t : (x ≡ n) × (bit (eqb x n) ≡ 1)). let on : bit (eqb x n) ≡ 1 = t.1 in
    omega (arith, below_none n x (omega arith)))
    (λ (t : (x ≢ n) × (bit (eqb x n) ≡ 0)). let off : bit (eqb x n) ≡ 0 = t.1 in let other : x ≢ n = t.0 in
    omega (arith, below_one n x (omega arith))) (one_if x n)

by_values : (n : ℕ) (xs : List ℕ) → ((x : ℕ) → 0 < times x xs → x < n)
    → weigh (λ x. weigh (λ i. bit (eqb x i)) (below n)) xs ≡ length xs
by_values n [] jobs = refl
by_values n (x ∷ xs) jobs = let here : bit (eqb x x) ≡ 1 =
    ⊎_elim (λ (t : (x ≡ x) × (bit (eqb x x) ≡ 1)). t.1) (λ (t : (x ≢ x) × (bit (eqb x x) ≡ 0)). absurd (t.0 refl))
    (one_if x x) in
    let low : x < n = jobs x (omega arith) in
    let later = by_values n xs (λ y l. jobs y (omega arith)) in
    omega (arith, below_one n x low)

each_at_most_one : (h : ℕ → ℕ) (ys : List ℕ) → ((y : ℕ) → h y ≤ 1) → weigh h ys ≤ length ys
each_at_most_one h [] most = omega arith
each_at_most_one h (y ∷ ys) most = omega (arith, most y, each_at_most_one h ys most)

pub distinct_length : (n : ℕ) (xs : List ℕ) → ((x : ℕ) → times x xs ≤ 1) → ((x : ℕ) → 0 < times x xs → x < n)
    → length xs ≤ n
distinct_length n xs once jobs =
    omega (
      arith,
      by_values n xs jobs,
      weigh_swap (λ x i. bit (eqb x i)) xs (below n),
      each_at_most_one
          (λ i. times i xs) (below n) once,
      below-length n,
    )

-- one more job fits
pub room_for : (n job : ℕ) (xs : List ℕ) → ((x : ℕ) → times x xs ≤ 1) → ((x : ℕ) → 0 < times x xs → x < n)
    → times job xs ≡ 0 → job < n → length xs < n
room_for n job xs once jobs fresh low = distinct_length n (job ∷ xs)
    (λ x. ⊎_elim (λ (t : (job ≡ x) × (bit (eqb job x) ≡ 1)). let clear : times x xs ≡ 0 =
    subst (λ (k : ℕ). times k xs ≡ 0) t.0 fresh in omega arith) (λ t. omega (arith, once x)) (one_if job x))
    (λ x l. ⊎_elim (λ (t : (job ≡ x) × (bit (eqb job x) ≡ 1)). subst (λ (k : ℕ). k < n) t.0 low)
    (λ (t : (job ≢ x) × (bit (eqb job x) ≡ 0)). let off : bit (eqb job x) ≡ 0 = t.1 in jobs x (omega arith))
    (one_if job x))
