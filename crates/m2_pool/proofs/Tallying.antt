-- The tally has each job once, and nothing else.
use Rattle.std.proofs.Common.{◌≡◌, ◌≢◌, ℕ, zero, suc, ◌<◌, ◌≤◌, List, ◌++◌, length, map, All, eqb, eq-eqb, ne_eqb, refl, ap, ◌∙◌, ⊎_elim, arith}
use Rattle.std.proofs.lemmas.Bool.{cases_eq, cases_lt, lt-ltb, le-ltb}
use Rattle.pool_board.specs.Lists.{times, one_list}
use Rattle.pool_board.specs.Rule.{AreCounted, IsConsistent, IsSourced}
use Rattle.pool_board.specs.Seats.{SeatState, all_had, all_met, all_counts, without}
use Rattle.pool_board.proofs.Consistent.{bit, one_if}
use Rattle.pool_board.proofs.Tallied.{listed-map}
use Rattle.pool_board.proofs.Weights.{weigh-push, weigh-append}
use Rattle.m2_pool.specs.Tallied.{IsTally}

-- no number past the jobs is left
none_beyond : (had : List ℕ) (n job : ℕ) → n ≤ job → times job (without had n) ≡ 0
none_beyond had zero job l = refl
none_beyond had (suc n) job l =
    let ih = none_beyond had n job (omega arith) in
    ⊎_elim
    (λ (t : times n had ≡ 0). rw (eq-eqb (times n had) 0 t)
    (⊎_elim (λ (u : (n ≡ job) × (bit (eqb n job) ≡ 1)). absurd (omega arith))
    (λ (u : (n ≢ job) × (bit (eqb n job) ≡ 0)). let off : bit (eqb n job) ≡ 0 = u.1 in
    omega (arith, weigh-push (λ y. bit (eqb y job)) (without had n) n)) (one_if n job)))
    (λ (t : times n had ≢ 0). rw (ne_eqb (times n had) 0 t) ih)
    (cases_eq (times n had) 0)

module _ (graph : List (List ℕ)) (seats : List SeatState) (lists : List (List ℕ)) (left : List ℕ)
    (lists_are : lists ≡ map (λ s. s.had) seats) (left_is : left ≡ without (all_had seats) (length graph))
    (each : (job : ℕ) → job < length graph → times job (one_list lists ++ left) ≡ 1)
    (consistent : IsConsistent graph (all_had seats) (all_met seats) (all_counts seats)) where
  -- a number that is no job stands in no list
  no_other : (number : ℕ) → length graph ≤ number → times number (one_list lists ++ left) ≡ 0
  no_other number beyond =
      let in_lists : times number (one_list lists) ≡ times number (all_had seats) =
      ap (λ (l : List (List ℕ)). times number (one_list l)) lists_are
      ∙ ap (times number) (listed-map (λ (s : SeatState). s.had) seats) in
      let in_left : times number left ≡ 0 = ap (times number) left_is
      ∙ none_beyond (all_had seats) (length graph) number beyond in
      let not_had : times number (all_had seats) ≡ 0 =
      ⊎_elim (λ (e : times number (all_had seats) ≡ 0). e)
      (λ (ne : times number (all_had seats) ≢ 0). absurd
      (let low = consistent.jobs number (omega arith) in omega arith)) (cases_eq (times number (all_had seats)) 0)
      in
      omega (arith, weigh-append (λ y. bit (eqb y number)) (one_list lists) left)

  pub is_tally : (workers : ℕ) → length seats ≡ workers → All (λ s. IsSourced s.had s.counts) seats
      → All (λ s. AreCounted graph s.had s.counts) seats → IsTally graph workers lists left
  is_tally workers count sources counted = record {
    each = λ number. ⊎_elim (λ (low : number < length graph). rw (lt-ltb number (length graph) low) (each number low))
        (λ (beyond : length graph ≤ number). rw (le-ltb number (length graph) beyond) (no_other number beyond))
        (cases_lt number (length graph));
    seats = seats;
    count_is = count;
    lists_are = lists_are;
    left_is = left_is;
    consistent = consistent;
    sources = sources;
    counted = counted;
  }
