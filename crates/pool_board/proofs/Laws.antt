-- What follows for the seats from what holds of all their lists together.
use Rattle.std.proofs.Common.{◌≡◌, ℕ, eqb, zero, suc, ◌<◌, ◌≤◌, List, [], ◌∷◌, length, refl, ap, ⊎_elim, arith}
use Rattle.pool_board.specs.declared.rule.Counted.{Counted}
use Rattle.pool_board.specs.Lists.{times}
use Rattle.pool_board.specs.Graph.{waiting_of}
use Rattle.pool_board.specs.Rule.{counted_to, IsConsistent}
use Rattle.pool_board.specs.Seats.{SeatState, all_had, all_met, all_counts}
use Rattle.pool_board.specs.Laws.{Has, NoJobTwice, TakenIsHad, answers_to, AnsweredOnce}
use Rattle.pool_board.proofs.Consistent.{bit, none_or_some}
use Rattle.pool_board.proofs.Weights.{weigh-append}

-- a job that a seat has stands in the lists of all
had_by_all : (seats : List SeatState) (i job : ℕ) → Has seats i job → 0 < times job (all_had seats)
had_by_all [] i job h = absurd (let l : i < 0 = h.0 in omega arith)
had_by_all (s ∷ ss) zero job h = let here : 0 < times job s.had = h.1 s in
    omega (arith, weigh-append (λ y. bit (eqb y job)) s.had (all_had ss))
had_by_all (s ∷ ss) (suc i) job h = let later =
    had_by_all ss i job ((let l : suc i < length (s ∷ ss) = h.0 in omega arith), h.1) in
    omega (arith, weigh-append (λ y. bit (eqb y job)) s.had (all_had ss))

no_job_twice : (job : ℕ) (seats : List SeatState) (i k : ℕ) → times job (all_had seats) ≤ 1 → Has seats i job
    → Has seats k job → i ≡ k
no_job_twice job [] i k once a b = absurd (let l : i < 0 = a.0 in omega arith)
no_job_twice job (s ∷ ss) zero zero once a b = refl
no_job_twice job (s ∷ ss) zero (suc k) once a b =
    let here : 0 < times job s.had = a.1 s in
    let later = had_by_all ss k job ((let l : suc k < length (s ∷ ss) = b.0 in omega arith), b.1) in
    absurd (omega (arith, weigh-append (λ y. bit (eqb y job)) s.had (all_had ss)))
no_job_twice job (s ∷ ss) (suc i) zero once a b =
    let here : 0 < times job s.had = b.1 s in
    let later = had_by_all ss i job ((let l : suc i < length (s ∷ ss) = a.0 in omega arith), a.1) in
    absurd (omega (arith, weigh-append (λ y. bit (eqb y job)) s.had (all_had ss)))
no_job_twice job (s ∷ ss) (suc i) (suc k) once a b =
    let parts = weigh-append (λ y. bit (eqb y job)) s.had (all_had ss) in
    let a' : Has ss i job = ((let l : suc i < length (s ∷ ss) = a.0 in omega arith), a.1) in
    let b' : Has ss k job = ((let l : suc k < length (s ∷ ss) = b.0 in omega arith), b.1) in
    ap (λ (n : ℕ). suc n) (no_job_twice job ss i k (omega arith) a' b')

-- a job that stands in the lists of all is some seat's
some_seat : (job : ℕ) (seats : List SeatState) → 0 < times job (all_had seats) → (i : ℕ) × Has seats i job
some_seat job [] l = absurd (omega arith)
some_seat job (s ∷ ss) l = ⊎_elim
    (λ (none : times job s.had ≡ 0).
    let later = some_seat job ss (omega (arith, weigh-append (λ y. bit (eqb y job)) s.had (all_had ss))) in
    (suc later.0, ((let low : later.0 < length ss = later.1.0 in omega arith), later.1.1)))
    (λ (here : 0 < times job s.had). (0, (omega arith, λ d. here)))
    (none_or_some (times job s.had))

module _ (graph : List (List ℕ)) (seats : List SeatState)
    (all : IsConsistent graph (all_had seats) (all_met seats) (all_counts seats)) where
  pub no_job_is_twice : NoJobTwice seats
  no_job_is_twice job i k a b = no_job_twice job seats i k (all.once job) a b

  pub taken_is_had : TakenIsHad seats
  taken_is_had job l = some_seat job seats (all.met_had job l)

  pub answered_is_once : AnsweredOnce graph (all_counts seats)
  answered_is_once job =
      let counts : List Counted = all_counts seats in
      let enough : counted_to graph job counts ≤ waiting_of graph job = all.enough job in
      let once : 0 < answers_to graph job counts → answers_to graph job counts ≡ 1 = λ some_time. let w =
      all.left_within job 0 some_time in all.left_once job 0 w.0 w.1 in (
        ⊎_elim (λ (none : answers_to graph job counts ≡ 0). omega arith)
            (λ (some_time : 0 < answers_to graph job counts). let one = once some_time in omega arith)
            (none_or_some (answers_to graph job counts)),
        λ waits. (
          (λ one. let some_time : 0 < answers_to graph job counts = omega arith in
              let w = all.left_within job 0 some_time in omega arith),
          (λ every. all.left_once job 0 (omega arith) waits),
        ),
      )
