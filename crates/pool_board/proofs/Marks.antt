-- The marks that say for each job which job named it last.
use Rattle.std.proofs.Common.{◌≡◌, ℕ, eqb, ◌↔◌, subst, suc, ◌+◌, ◌<◌, ◌≢◌, List, [], length, get_or, set, take, sym, ◌∙◌, ⊎_elim, arith, Option, Some, None, get_or-set_other, get_or-set_same}
use Rattle.std.specs.Prelude.{IfSome}
use Rattle.pool_board.specs.Lists.{times}
use Rattle.pool_board.specs.Graph.{AreBelow}
use Rattle.pool_board.proofs.Consistent.{bit, one_if}
use Rattle.pool_board.proofs.Graphs.{more_times}

-- just these have the mark of the job
abbrev pub AreMarked : List (Option ℕ) → ℕ → List ℕ → Type 0
AreMarked marks job list = (p : ℕ) → (get_or marks p None ≡ Some job) ↔ (0 < times p list)

pub not_marked : (marks : List (Option ℕ)) (job p : ℕ) → AreBelow marks job → get_or marks p None ≡ Some job → ⊥
not_marked marks job p below is = let low : job < job = rw is at (below p) in omega arith

pub none_marked : (marks : List (Option ℕ)) (job : ℕ) → AreBelow marks job → AreMarked marks job []
none_marked marks job below p = ((λ is. absurd (not_marked marks job p below is)), λ l. absurd (omega arith))

pub marked_more : (marks : List (Option ℕ)) (job : ℕ) (list : List ℕ) (i : ℕ) → i < length list
    → get_or list i 0 < length marks → AreMarked marks job (take i list)
    → AreMarked (set marks (get_or list i 0) (Some job)) job (take (i + 1) list)
marked_more marks job list i l room marked p = let q : ℕ = get_or list i 0 in ⊎_elim
    (λ (t : (q ≡ p) × (bit (eqb q p) ≡ 1)). let on : bit (eqb q p) ≡ 1 = t.1 in (
      (λ _. omega (arith, more_times list i p l)),
      (λ _. subst (λ (k : ℕ). get_or (set marks q (Some job)) k None ≡ Some job) t.0
          (get_or-set_same marks q (Some job) None room)),
    ))
    (λ (t : (q ≢ p) × (bit (eqb q p) ≡ 0)). let off : bit (eqb q p) ≡ 0 = t.1 in
    let same : get_or (set marks q (Some job)) p None ≡ get_or marks p None =
    get_or-set_other marks q p (Some job) None (λ e. t.0 (sym e)) in (
      (λ is. let some_time : 0 < times p (take i list) = (marked p).0 (sym same ∙ is) in
          omega (arith, more_times list i p l)),
      (λ s. same ∙ (marked p).1 (omega (arith, more_times list i p l))),
    ))
    (one_if q p)

some_more : (o : Option ℕ) (job : ℕ) → IfSome o (λ m. m < job) → IfSome o (λ m. m < suc job)
some_more None job low = low
some_more (Some m) job low = omega arith

pub below_more : (marks : List (Option ℕ)) (job : ℕ) → AreBelow marks job → AreBelow marks (suc job)
below_more marks job below p = some_more (get_or marks p None) job (below p)

pub below_set : (marks : List (Option ℕ)) (job q : ℕ) → q < length marks → AreBelow marks (suc job)
    → AreBelow (set marks q (Some job)) (suc job)
below_set marks job q room below p = ⊎_elim
    (λ (t : (q ≡ p) × (bit (eqb q p) ≡ 1)). let low : job < suc job = omega arith in
    subst (λ (k : ℕ). IfSome (get_or (set marks q (Some job)) k None) (λ m. m < suc job)) t.0
    (rw (get_or-set_same marks q (Some job) None room) low))
    (λ (t : (q ≢ p) × (bit (eqb q p) ≡ 0)). rw (get_or-set_other marks q p (Some job) None (λ e. t.0 (sym e)))
    (below p))
    (one_if q p)
