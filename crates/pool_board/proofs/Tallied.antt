-- The jobs that no seat had.
use Rattle.std.proofs.Common.{◌≡◌, ℕ, eqb, cond, eq-eqb, ne_eqb, zero, suc, ◌+◌, ◌<◌, ◌≤◌, ◌≢◌, List, [], ◌∷◌, ◌++◌, map, get_or, sym, refl, ap, ◌∙◌, ⊎_elim, arith}
use Rattle.std.proofs.lemmas.Bool.{cases_eq}
use mathlib.Core.Option.{some, some-injective, some-ne-none}
use lib.ListN.{get_elem?}
use Rattle.pool_board.specs.Lists.{times, together, one_list}
use Rattle.pool_board.specs.Seats.{unset, without}
use Rattle.pool_board.proofs.Weights.{weigh-push}
use Rattle.pool_board.proofs.Consistent.{bit, one_if}

pub unset_is : (words had : List ℕ) (n : ℕ) → ((j : ℕ) → j < n → get_or words j 0 ≡ times j had)
    → unset words n ≡ without had n
unset_is words had zero same = refl
unset_is words had (suc n) same =
    let ih = unset_is words had n (λ j l. same j (omega arith)) in
    ap (λ (k : ℕ). cond (eqb k 0) (unset words n ++ n ∷ []) (unset words n)) (same n (omega arith))
    ∙ ap (λ (l : List ℕ). cond (eqb (times n had) 0) (l ++ n ∷ []) l) ih

-- one more place
pub unset_more : (words : List ℕ) (n : ℕ) → get_or words n 0 ≡ 0 → unset words (n + 1) ≡ unset words n ++ n ∷ []
unset_more words n z = let one : n + 1 ≡ suc n = omega arith in
    ap (unset words) one ∙ rw (eq-eqb (get_or words n 0) 0 z) refl

pub unset_same : (words : List ℕ) (n : ℕ) → get_or words n 0 ≢ 0 → unset words (n + 1) ≡ unset words n
unset_same words n z = let one : n + 1 ≡ suc n = omega arith in
    ap (unset words) one ∙ rw (ne_eqb (get_or words n 0) 0 z) refl

pub word_at : (l : List ℕ) (i a : ℕ) → get_elem? l i ≡ some a → get_or l i 0 ≡ a
word_at [] i a e = absurd (some-ne-none a (sym e))
word_at (x ∷ xs) zero a e = some-injective x a e
word_at (x ∷ xs) (suc i) a e = word_at xs i a e

without_beyond : (had : List ℕ) (n job : ℕ) → n ≤ job → times job (without had n) ≡ 0
without_beyond had zero job l = refl
without_beyond had (suc n) job l =
    let ih = without_beyond had n job (omega arith) in
    ⊎_elim
    (λ (t : times n had ≡ 0). rw (eq-eqb (times n had) 0 t)
    (⊎_elim (λ (u : (n ≡ job) × (bit (eqb n job) ≡ 1)). absurd (omega arith))
    (λ (u : (n ≢ job) × (bit (eqb n job) ≡ 0)). let off : bit (eqb n job) ≡ 0 = u.1 in
    omega (arith, weigh-push (λ y. bit (eqb y job)) (without had n) n)) (one_if n job)))
    (λ (t : times n had ≢ 0). rw (ne_eqb (times n had) 0 t) ih)
    (cases_eq (times n had) 0)

-- each job was had or is left
pub each_job : (had : List ℕ) (n job : ℕ) → job < n → times job had ≤ 1 → times job had + times job (without had n) ≡ 1
each_job had zero job l once = absurd (omega arith)
each_job had (suc n) job l once = ⊎_elim
    (λ (u : (n ≡ job) × (bit (eqb n job) ≡ 1)). let beyond = without_beyond had n job (omega arith) in
    let same : times n had ≡ times job had = ap (λ (k : ℕ). times k had) u.0 in ⊎_elim
    (λ (t : times n had ≡ 0). rw (eq-eqb (times n had) 0 t)
    (let on : bit (eqb n job) ≡ 1 = u.1 in omega (arith, weigh-push (λ y. bit (eqb y job)) (without had n) n)))
    (λ (t : times n had ≢ 0). rw (ne_eqb (times n had) 0 t) (omega arith))
    (cases_eq (times n had) 0))
    (λ (u : (n ≢ job) × (bit (eqb n job) ≡ 0)). let other : n ≢ job = u.0 in
    let ih = each_job had n job (omega arith) once in ⊎_elim
    (λ (t : times n had ≡ 0). rw (eq-eqb (times n had) 0 t)
    (let off : bit (eqb n job) ≡ 0 = u.1 in omega (arith, weigh-push (λ y. bit (eqb y job)) (without had n) n)))
    (λ (t : times n had ≢ 0). rw (ne_eqb (times n had) 0 t) ih)
    (cases_eq (times n had) 0))
    (one_if n job)

pub listed-map : {S : Type 0} (f : S → List ℕ) (seats : List S) → one_list (map f seats) ≡ together f seats
listed-map f [] = refl
listed-map f (s ∷ ss) = ap (λ (l : List ℕ). f s ++ l) (listed-map f ss)
