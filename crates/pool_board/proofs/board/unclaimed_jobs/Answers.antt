use Rattle.std.proofs.Common.{◌≡◌, ℕ, List, [], ◌∷◌, ◌++◌, length, sym, ap, ◌∙◌, arith, length-append, vec_capacity, get_or}
use Rattle.std.specs.Slots.{slots_items}
use Rattle.pool_board.proofs.Tallied.{unset_more, unset_same, word_at}
use Rattle.pool_board.proofs.board.unclaimed_jobs.Goals as goal
use Rattle.pool_board.proofs.board.unclaimed_jobs.Goals.{then-word-eq0, else-word-eq0}

pub loop-job-preserved : goal.loop-job-preserved
loop-job-preserved c =
    let at = c.loop-job in
    let words : List ℕ = slots_items c.args.closed.now.words in
    let found : get_or words c.loop-job.job 0 ≡ c.word.result =
    word_at words c.loop-job.job c.word.result c.word.ensures in
    elim c.if-word-eq0.branch [
      | then-word-eq0 w ↦
          let items : c.if-word-eq0.list.items ≡ c.loop-job.list.items ++ c.loop-job.job ∷ [] =
          ap (λ v. v.items) w.list-is ∙ w.push_reserved.ensures.items in
          let long : length c.if-word-eq0.list.items ≡ length (c.loop-job.list.items ++ c.loop-job.job ∷ []) =
          ap (λ (l : List ℕ). length l) items in
          record {
            so_far = items ∙ (ap (λ (l : List ℕ). l ++ c.loop-job.job ∷ []) at.invariant.so_far
                ∙ sym (unset_more words c.loop-job.job (found ∙ w.if-word-eq0.true)));
            few = omega (arith, length-append c.loop-job.list.items (c.loop-job.job ∷ []), at.invariant.few);
            room_is = ap (λ v. vec_capacity v) w.list-is ∙ (w.push_reserved.ensures.capacity ∙ at.invariant.room_is);
          }
      | else-word-eq0 w ↦
          let items : c.if-word-eq0.list.items ≡ c.loop-job.list.items = ap (λ v. v.items) w.list-is in
          let long : length c.if-word-eq0.list.items ≡ length c.loop-job.list.items =
          ap (λ (l : List ℕ). length l) items in
          record {
            so_far = items ∙ (at.invariant.so_far
                ∙ sym (unset_same words c.loop-job.job (λ z. w.if-word-eq0.false (sym found ∙ z))));
            few = omega (arith, at.invariant.few);
            room_is = ap (λ v. vec_capacity v) w.list-is ∙ at.invariant.room_is;
          }
    ]
