-- A place for each job, as they are filled.
use Rattle.std.proofs.Common.{◌≡◌, ℕ, eqb, ◌<◌, ◌≢◌, List, [], ◌∷◌, ◌++◌, length, map, get_or, set, sym, ap, ◌∙◌, subst, ⊎_elim, arith, Option, Some, None, get_or-set_other, get_or-set_same}
use Rattle.std.specs.Prelude.{MatchOption, IfSome}
use mathlib.Core.List.{map-append}
use Rattle.pool_board.specs.Lists.{times}
use Rattle.pool_board.proofs.Weights.{weigh-push}
use Rattle.pool_board.proofs.Consistent.{bit, one_if}

-- another fact of a place with nothing in it
match_none : {R : Type 0} (o : Option R) (P P' : Type 0) (Q : R → Type 0) → (P → P') → MatchOption o P Q
    → MatchOption o P' Q
match_none None P P' Q f m = f m
match_none (Some r) P P' Q f m = m

-- no fact of a place with nothing in it
pub match_some : {R : Type 0} (o : Option R) (P : Type 0) (Q : R → Type 0) → MatchOption o P Q → IfSome o Q
match_some None P Q m = tt
match_some (Some r) P Q m = m

module _ {R : Type 0} (job_of : R → ℕ) (Right : ℕ → R → Type 0) where
  -- each of these is at the place of its job, and nothing else is
  abbrev pub Placed : List (Option R) → ℕ → List R → Type 0
  Placed places jobs rs = (k : ℕ) → k < jobs
      → MatchOption (get_or places k None) (times k (map job_of rs) ≡ 0) (Right k)

  more : (rs : List R) (r : R) (k : ℕ) → job_of r ≢ k → times k (map job_of rs) ≡ 0
      → times k (map job_of (rs ++ r ∷ [])) ≡ 0
  more rs r k other none = ap (times k) (map-append job_of rs (r ∷ [])) ∙ ⊎_elim
      (λ (t : (job_of r ≡ k) × (bit (eqb (job_of r) k) ≡ 1)). absurd (other t.0))
      (λ (t : (job_of r ≢ k) × (bit (eqb (job_of r) k) ≡ 0)). let off : bit (eqb (job_of r) k) ≡ 0 = t.1 in
      omega (arith, weigh-push (λ y. bit (eqb y k)) (map job_of rs) (job_of r)))
      (one_if (job_of r) k)

  pub placed_in : (places : List (Option R)) (jobs : ℕ) (rs : List R) (r : R) → length places ≡ jobs
      → Right (job_of r) r → Placed places jobs rs
      → Placed (set places (job_of r) (Some r)) jobs (rs ++ r ∷ [])
  placed_in places jobs rs r len right before k l = ⊎_elim
      (λ (t : (job_of r ≡ k) × (bit (eqb (job_of r) k) ≡ 1)).
      let same : job_of r ≡ k = t.0 in
      let here : job_of r < length places = omega arith in
      let P : ℕ → Type 0 = λ i. MatchOption (get_or (set places (job_of r) (Some r)) i None)
      (times i (map job_of (rs ++ r ∷ [])) ≡ 0) (Right i) in
      subst P t.0 (rw (get_or-set_same places (job_of r) (Some r) None here) right))
      (λ (t : (job_of r ≢ k) × (bit (eqb (job_of r) k) ≡ 0)).
      let other : k ≢ job_of r = λ e. t.0 (sym e) in
      rw (get_or-set_other places (job_of r) k (Some r) None other)
      (match_none (get_or places k None) _ _ (Right k) (more rs r k t.0) (before k l)))
      (one_if (job_of r) k)
