use Rattle.std.proofs.Common.{◌≡◌, ℕ, List, length, get_or, take, refl, sym, ap, ◌∙◌, subst, arith}
use Rattle.std.proofs.lemmas.Bool.{false≢true, ltb-true, ltb-false}
use Rattle.std.proofs.Math.Seq.{take-length}
use Rattle.pool_board.specs.Lists.{times}
use Rattle.pool_board.specs.Graph.{IsJob}
use Rattle.pool_board.proofs.Graphs.{any_times, sound_more, too_great, twice}
use Rattle.pool_board.proofs.graph.is_sound_by_look.Goals as goal
use Rattle.pool_board.proofs.graph.is_sound_by_look.Goals.{then-list-i-via-then-list-i, then-list-i-via-else-list-i+then-contains}

pub returns-then-list-i : goal.returns-then-list-i
returns-then-list-i c = (
  (λ t. absurd (false≢true t)),
  λ sound. absurd (elim c.then-list-i.branch [
    | then-list-i-via-then-list-i w ↦ too_great c.args.list.now c.loop-i.i c.args.job c.loop-i-test.true
        w.if-list-i.true sound
    | then-list-i-via-else-list-i+then-contains w ↦
        let x : ℕ = get_or c.args.list.now c.loop-i.i 0 in
        let before : List ℕ = take c.loop-i.i c.args.list.now in
        twice c.args.list.now c.loop-i.i c.args.job c.loop-i-test.true
        (ltb-true 0 (times x before) (sym (any_times before x)
        ∙ (sym w.contains.ensures.value ∙ w.if-contains.true))) sound
  ]),
)

pub loop-i-preserved : goal.loop-i-preserved
loop-i-preserved c =
    let x : ℕ = get_or c.args.list.now c.loop-i.i 0 in
    let before : List ℕ = take c.loop-i.i c.args.list.now in
    let few = ltb-false 0 (times x before)
    (sym (any_times before x) ∙ (sym c.contains.ensures.value ∙ c.if-contains.false)) in
    sound_more c.args.list.now c.loop-i.i c.args.job c.loop-i-test.true c.if-list-i.false (omega (arith, few))
    c.loop-i.invariant

pub returns : goal.returns
returns c =
    let every : c.loop-i.i ≡ length c.args.list.now = omega arith in
    let whole : take c.loop-i.i c.args.list.now ≡ c.args.list.now = ap (λ (k : ℕ). take k c.args.list.now) every
    ∙ take-length c.args.list.now in
    ((λ _. subst (λ (l : List ℕ). IsJob l c.args.job) whole c.loop-i.invariant), λ _. refl)
