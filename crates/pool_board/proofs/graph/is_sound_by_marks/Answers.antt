use Rattle.std.proofs.Common.{◌≡◌, ℕ, ◌<◌, List, length, get_or, take, refl, sym, ap, ◌∙◌, subst, arith, ⊎_elim}
use Rattle.std.proofs.lemmas.Bool.{false≢true}
use Rattle.std.proofs.Math.Seq.{take-length}
use Rattle.pool_board.specs.Lists.{times}
use Rattle.pool_board.specs.Graph.{IsJob}
use Rattle.pool_board.proofs.Consistent.{none_or_some}
use Rattle.pool_board.proofs.Graphs.{sound_more, too_great, twice}
use Rattle.pool_board.proofs.Marks.{marked_more, below_set}
use Rattle.pool_board.proofs.graph.is_sound_by_marks.Goals as goal
use Rattle.pool_board.proofs.graph.is_sound_by_marks.Goals.{then-list-i-via-then-list-i, then-list-i-via-else-list-i+then-is_mark}

pub returns-then-list-i-clause-sound : goal.returns-then-list-i-clause-sound
returns-then-list-i-clause-sound c = (
  (λ t. absurd (false≢true t)),
  λ sound. absurd (elim c.then-list-i.branch [
    | then-list-i-via-then-list-i w ↦ too_great c.args.list.now c.loop-i.i c.args.job c.loop-i-test.true
        w.if-list-i.true sound
    | then-list-i-via-else-list-i+then-is_mark w ↦
        twice c.args.list.now c.loop-i.i c.args.job c.loop-i-test.true
        ((c.loop-i.invariant.marked (get_or c.args.list.now c.loop-i.i 0)).0
        (w.is_mark.ensures.0 w.if-is_mark.true)) sound
  ]),
)

pub loop-i-preserved : goal.loop-i-preserved
loop-i-preserved c =
    let x : ℕ = get_or c.args.list.now c.loop-i.i 0 in
    let before : List ℕ = take c.loop-i.i c.args.list.now in
    let room : x < length c.loop-i.marks = omega (arith, c.if-list-i.false, c.requires.count, c.loop-i.auto.marks) in
    let fresh : times x before ≡ 0 = ⊎_elim (λ none. none)
    (λ some_time. absurd (false≢true (sym c.if-is_mark.false
    ∙ c.is_mark.ensures.1 ((c.loop-i.invariant.marked x).1 some_time)))) (none_or_some (times x before)) in
    record {
      sound = sound_more c.args.list.now c.loop-i.i c.args.job c.loop-i-test.true c.if-list-i.false fresh
          c.loop-i.invariant.sound;
      marked = marked_more c.loop-i.marks c.args.job c.args.list.now c.loop-i.i c.loop-i-test.true room
          c.loop-i.invariant.marked;
      below = below_set c.loop-i.marks c.args.job x room c.loop-i.invariant.below;
    }

pub returns-clause-sound : goal.returns-clause-sound
returns-clause-sound c =
    let every : c.loop-i.i ≡ length c.args.list.now = omega (arith, c.loop-i-test.false, c.loop-i.auto.i-end) in
    let whole : take c.loop-i.i c.args.list.now ≡ c.args.list.now = ap (λ (k : ℕ). take k c.args.list.now) every
    ∙ take-length c.args.list.now in
    ((λ _. subst (λ (l : List ℕ). IsJob l c.args.job) whole c.loop-i.invariant.sound), λ _. refl)
