-- Places of lists: where one is set, and where lists are joined.
use Rattle.std.proofs.Common.{◌≡◌, ℕ, zero, suc, ◌+◌, ◌<◌, List, [], ◌∷◌, ◌++◌, length, Some, refl, ap, ◌∙◌, arith}
use Rattle.std.specs.Prelude.{slice_get, slice_set}

module _ {A : Type 0} where
  pub set_length : (xs : List A) (n : ℕ) (x : A) → length (slice_set xs n x) ≡ length xs
  set_length [] n x = refl
  set_length (y ∷ xs) zero x = refl
  set_length (y ∷ xs) (suc n) x = ap suc (set_length xs n x)

  pub set_other : (xs : List A) (n k : ℕ) (x : A) → (k ≡ n → ⊥) → slice_get (slice_set xs n x) k ≡ slice_get xs k
  set_other [] n k x h = refl
  set_other (y ∷ xs) zero zero x h = absurd (h refl)
  set_other (y ∷ xs) zero (suc k) x h = refl
  set_other (y ∷ xs) (suc n) zero x h = refl
  set_other (y ∷ xs) (suc n) (suc k) x h = set_other xs n k x (λ e. h (ap suc e))

  pub set_same : (xs : List A) (n : ℕ) (x : A) → n < length xs → slice_get (slice_set xs n x) n ≡ Some x
  set_same [] n x h = absurd (omega (arith, h))
  set_same (y ∷ xs) zero x h = refl
  set_same (y ∷ xs) (suc n) x h = set_same xs n x (omega (arith, h))

  pub before_end : (xs ys : List A) (k : ℕ) → k < length xs → slice_get (xs ++ ys) k ≡ slice_get xs k
  before_end [] ys k h = absurd (omega (arith, h))
  before_end (x ∷ xs) ys zero h = refl
  before_end (x ∷ xs) ys (suc k) h = before_end xs ys k (omega (arith, h))

  pub behind_end : (xs ys : List A) (k : ℕ) → slice_get (xs ++ ys) (length xs + k) ≡ slice_get ys k
  behind_end [] ys k = let e : 0 + k ≡ k = omega arith in ap (λ (n : ℕ). slice_get ys n) e
  behind_end (x ∷ xs) ys k = let e : suc (length xs) + k ≡ suc (length xs + k) = omega arith in
      ap (λ (n : ℕ). slice_get (x ∷ (xs ++ ys)) n) e ∙ behind_end xs ys k

  pub is_within : (xs : List A) (k : ℕ) (x : A) → slice_get xs k ≡ Some x → k < length xs
  is_within [] k x e = absurd cc
  is_within (y ∷ xs) zero x e = omega arith
  is_within (y ∷ xs) (suc k) x e = let h : k < length xs = is_within xs k x e in omega (arith, h)
