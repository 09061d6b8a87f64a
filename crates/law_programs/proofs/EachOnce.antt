-- Each file has one job.
use Rattle.std.proofs.Common.{◌≡◌, ℕ, zero, suc, ◌+◌, ◌<◌, ◌≤◌, Bool, true, false, cond, ◌==◌, List, [], ◌∷◌, map, Some, refl, sym, ap, ◌∙◌, arith, inl, inr}
use Rattle.std.specs.Prelude.{slice_get}
use Rattle.std.specs.List.{sum_by}
use Rattle.std.specs.List.Sorted.{IsPermutation}
use Rattle.std.specs.Option.{option_map}
use Rattle.std.proofs.lemmas.Bool.{cases_eq, ne_eqb, eq-eqb}
use Rattle.std.proofs.lemmas.Option.{same_Some, none-some}
use Rattle.std.proofs.lemmas.List.Sorted.{sum_by_pushed, sum_by-IsPermutation, IsPermutation-refl}
use Rattle.m2_tree.specs.declared.decl.Module.{Module}
use Rattle.graph_walk.specs.Links.{times}
use Rattle.m2_graph.specs.Files.{number_files}
use Rattle.m2_graph.specs.Graph.{CompileEach}
use Rattle.m2_graph.specs.Jobs.{number_of}

-- ---- how often a number is in a list

times_sum : (k : ℕ) (xs : List ℕ) → times xs k ≡ sum_by (λ x. cond (x == k) 1 0) xs
times_sum k [] = refl
times_sum k (x ∷ xs) = ap (λ (n : ℕ). cond (x == k) 1 0 + n) (times_sum k xs)
    ∙ sym (sum_by_pushed (λ y. cond (y == k) 1 0) x xs (x ∷ xs) (IsPermutation-refl (x ∷ xs)))

times_permuted : (k : ℕ) (xs ys : List ℕ) → IsPermutation xs ys → times ys k ≡ times xs k
times_permuted k xs ys p = times_sum k ys ∙ sum_by-IsPermutation (λ x. cond (x == k) 1 0) xs ys p ∙ sym (times_sum k xs)

abbrev one_if : Bool → ℕ
one_if b = cond b 1 0

there : (k : ℕ) (xs : List ℕ) (j : ℕ) → slice_get xs j ≡ Some k → 1 ≤ times xs k
there k [] j e = absurd (none-some k e)
there k (x ∷ xs) zero e =
    let one : ◌≡◌ {A = ℕ} (cond (x == k) 1 0) 1 = ap one_if (eq-eqb x k (same_Some x k e)) in
    omega (arith, one)
there k (x ∷ xs) (suc j) e = omega (arith, there k xs j e)

-- where a number is once, it is first there
pub first_is : (k : ℕ) (xs : List ℕ) (j : ℕ) → times xs k ≤ 1 → slice_get xs j ≡ Some k → number_of xs k ≡ Some j
first_is k [] j le e = absurd (none-some k e)
first_is k (x ∷ xs) zero le e = ap (λ (b : Bool). cond b (Some 0) (option_map suc (number_of xs k)))
    (eq-eqb x k (same_Some x k e))
first_is k (x ∷ xs) (suc j) le e = by (x == k) refl (λ few. first_is k xs j few e)
  where
    by : (b : Bool) → (x == k) ≡ b → (times xs k ≤ 1 → number_of xs k ≡ Some j) → number_of (x ∷ xs) k ≡ Some (suc j)
    by true is onward =
        let one : ◌≡◌ {A = ℕ} (cond (x == k) 1 0) 1 = ap one_if is in
        absurd (omega (arith, one, le, there k xs j e))
    by false is onward =
        let none : ◌≡◌ {A = ℕ} (cond (x == k) 1 0) 0 = ap one_if is in
        ap (λ (b : Bool). cond b (Some 0) (option_map suc (number_of xs k))) is
        ∙ ap (option_map suc) (onward (omega (arith, none, le)))

-- ---- the files as they are given

abbrev givens : ℕ → List (List ℕ × Module) → List ℕ
givens n fs = map (λ f. f.given) (number_files n fs)

none_below : (k n : ℕ) (fs : List (List ℕ × Module)) → k < n → times (givens n fs) k ≡ 0
none_below k n [] l = refl
none_below k n (f ∷ fs) l =
    let none : ◌≡◌ {A = ℕ} (cond (n == k) 1 0) 0 = ap one_if (ne_eqb n k (λ e. absurd (omega (arith, e, l)))) in
    omega (arith, none, none_below k (n + 1) fs (omega (arith, l)))

one_given : (k n : ℕ) (fs : List (List ℕ × Module)) → times (givens n fs) k ≤ 1
one_given k n [] = omega arith
one_given k n (f ∷ fs) = elim (cases_eq n k) [
  | inl e ↦ (let one : ◌≡◌ {A = ℕ} (cond (n == k) 1 0) 1 = ap one_if (eq-eqb n k e) in
      omega (arith, one, none_below k (n + 1) fs (omega (arith, e))))
  | inr ne ↦ (let none : ◌≡◌ {A = ℕ} (cond (n == k) 1 0) 0 = ap one_if (ne_eqb n k ne) in
      omega (arith, none, one_given k (n + 1) fs))
]

-- ---- jobs

module _ (fs : List (List ℕ × Module)) (numbers : List ℕ) (each : CompileEach (number_files 0 fs) numbers) where
  -- a job is the one of its file
  pub job_of : (j k : ℕ) → slice_get numbers j ≡ Some k → number_of numbers k ≡ Some j
  job_of j k e = first_is k numbers j (let same = times_permuted k (givens 0 fs) numbers each in
      omega (arith, same, one_given k 0 fs)) e
