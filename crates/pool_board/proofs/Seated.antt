-- What is kept of a seat stays so over its steps.
use Rattle.std.proofs.Common.{◌≡◌, ℕ, eqb, ◌&&◌, eq-eqb, ne_eqb, subst, suc, ◌+◌, ◌<◌, ◌≢◌, List, [], ◌∷◌, ◌++◌, length, sym, ap, ◌∙◌, ⊎_elim, arith}
use mathlib.Core.Option.{none}
use Rattle.atomic_table.specs.Table.{Me, step}
use Rattle.pool_board.specs.declared.rule.Record.{Record}
use Rattle.pool_board.specs.Lists.{times}
use Rattle.pool_board.specs.Seats.{IsSeat}
use Rattle.pool_board.specs.Steps.{Claims, with_had, with_met, with_count, count_of}
use Rattle.pool_board.proofs.Weights.{weigh-push}
use Rattle.pool_board.proofs.Consistent.{bit, one_if, one_if_both}
use Rattle.pool_board.proofs.Rooms.{room_for}

module _ {S : Type 0} where
  -- what the swap answered a seat that got the job
  pub got : (job found : ℕ) (me me' : Me S Record) → found ≡ 0 → Claims (step 0 job 1 0 none) me found me'
      → (me'.1 ≡ me.1) × (me'.0 ≡ with_had me.0 job) × (times job me.0.had ≡ 0)
  got job found me me' is answered = let t = rw (eq-eqb found 0 is) at answered.1 in (answered.0, t.0, t.1)

  pub missed : (job found : ℕ) (me me' : Me S Record) → found ≢ 0 → Claims (step 0 job 1 0 none) me found me'
      → (me'.1 ≡ me.1) × (me'.0 ≡ with_met me.0 job)
  missed job found me me' is answered = let t = rw (ne_eqb found 0 is) at answered.1 in (answered.0, t)

  pub seat_room : (words capacity job : ℕ) (had : List ℕ) (me : Me S Record) → IsSeat words capacity had me
      → suc (job + job) < words → times job me.0.had ≡ 0 → length had < capacity
  seat_room words capacity job had me seat low fresh =
      room_for capacity job had seat.once (λ x l. let h = seat.jobs x l in let r = seat.room in omega arith)
      (ap (times job) (sym seat.had_is) ∙ fresh) (let r = seat.room in omega arith)

  pub seat_had : (words capacity job : ℕ) (had : List ℕ) (me me' : Me S Record) → IsSeat words capacity had me
      → suc (job + job) < words
      → (me'.1 ≡ me.1) → (me'.0 ≡ with_had me.0 job) → times job me.0.had ≡ 0
      → IsSeat words capacity (had ++ job ∷ []) me'
  seat_had words capacity job had me me' seat low same is fresh =
      let fresh' : times job had ≡ 0 = ap (times job) (sym seat.had_is) ∙ fresh in
      let grown : (x : ℕ) → times x (had ++ job ∷ []) ≡ times x had + bit (eqb job x) =
      λ x. weigh-push (λ y. bit (eqb y x)) had job in record {
        had_is = ap (λ (v : Record). v.had) is ∙ ap (λ (l : List ℕ). l ++ job ∷ []) seat.had_is;
        share_is = ap (λ (v : Record). v.share) is ∙ seat.share_is;
        free = same ∙ seat.free;
        room = seat.room;
        once = λ x. ⊎_elim (λ (t : (job ≡ x) × (bit (eqb job x) ≡ 1)). let clear : times x had ≡ 0 =
            subst (λ (k : ℕ). times k had ≡ 0) t.0 fresh' in omega (arith, grown x))
            (λ t. omega (arith, grown x, seat.once x)) (one_if job x);
        sourced = rw (ap (λ (v : Record). v.counts) is)
            (λ from edge l. let before = seat.sourced from edge l in omega (arith, grown from));
        jobs = λ x l. ⊎_elim (λ (t : (job ≡ x) × (bit (eqb job x) ≡ 1)). subst (λ (k : ℕ). suc (k + k) < words) t.0 low)
            (λ (t : (job ≢ x) × (bit (eqb job x) ≡ 0)). let off : bit (eqb job x) ≡ 0 = t.1 in
            seat.jobs x (omega (arith, grown x))) (one_if job x);
      }

  pub seat_met : (words capacity job : ℕ) (had : List ℕ) (me me' : Me S Record) → IsSeat words capacity had me
      → me'.1 ≡ me.1 → me'.0 ≡ with_met me.0 job → IsSeat words capacity had me'
  seat_met words capacity job had me me' seat same is = record {
    had_is = ap (λ (v : Record). v.had) is ∙ seat.had_is;
    share_is = ap (λ (v : Record). v.share) is ∙ seat.share_is;
    free = same ∙ seat.free;
    room = seat.room;
    once = seat.once;
    jobs = seat.jobs;
    sourced = rw (ap (λ (v : Record). v.counts) is) seat.sourced;
  }

  pub seat_counted : (words capacity from edge left : ℕ) (had : List ℕ) (me me' : Me S Record)
      → IsSeat words capacity had me → me'.1 ≡ me.1 → me'.0 ≡ with_count me.0 (count_of from edge left)
      → 0 < times from had
      → IsSeat words capacity had me'
  seat_counted words capacity from edge left had me me' seat same is there = record {
    had_is = ap (λ (v : Record). v.had) is ∙ seat.had_is;
    share_is = ap (λ (v : Record). v.share) is ∙ seat.share_is;
    free = same ∙ seat.free;
    room = seat.room;
    once = seat.once;
    jobs = seat.jobs;
    sourced = rw (ap (λ (v : Record). v.counts) is) (λ f e l. ⊎_elim
        (λ (u : (from ≡ f) × (edge ≡ e) × (bit (eqb from f && eqb edge e) ≡ 1)). subst (λ (i : ℕ). 0 < times i had) u.0
        there)
        (λ (u : ((from ≡ f) → (edge ≡ e) → ⊥) × (bit (eqb from f && eqb edge e) ≡ 0)). let off : bit
        (eqb from f && eqb edge e) ≡ 0 = u.1 in
        seat.sourced f e (omega (
          arith,
          weigh-push (λ d. bit (eqb d.from f && eqb d.edge e)) me.0.counts
              (count_of from edge left),
        )))
        (one_if_both from f edge e));
  }
