use Rattle.std.proofs.Common.{◌≡◌, ℕ, List, ◌∷◌, get_or, ap, ◌∙◌, subst, arith}
use Rattle.scan_tokens.specs.Steps.{place_after}
use Rattle.scan_tokens.proofs.Walks.{Walks, opens, closes, ends, goes_on, never, from_third, from_second}
use Rattle.scan_tokens.proofs.comment.comment_end.Goals as goal

pub loop-rest-preserved-in-Opening : goal.loop-rest-preserved-in-Opening
loop-rest-preserved-in-Opening c =
    let e = c.in-Opening.ensures in
    opens c.args.text.now c.args.start c.loop-rest.levels c.loop-rest.rest.now c.loop-rest.pos _ _ c.loop-rest.invariant
    (from_third c.loop-rest.rest.now 40 42 e.0 e.1) c.right-pos.ensures.line c.right-pos.ensures.col

pub returns-then-levels-eq0 : goal.returns-then-levels-eq0
returns-then-levels-eq0 c =
    let e = c.in-Closing.ensures in
    ends c.args.text.now c.args.start c.loop-rest.levels c.loop-rest.rest.now c.loop-rest.pos _ _ c.loop-rest.invariant
    (from_third c.loop-rest.rest.now 42 41 e.0 e.1) c.right-pos-in-Closing.ensures.line
    c.right-pos-in-Closing.ensures.col c.if-levels-eq0.true

pub loop-rest-preserved-else-levels-eq0 : goal.loop-rest-preserved-else-levels-eq0
loop-rest-preserved-else-levels-eq0 c =
    let e = c.in-Closing.ensures in
    closes c.args.text.now c.args.start c.loop-rest.levels c.loop-rest.rest.now c.loop-rest.pos _ _
    c.loop-rest.invariant (from_third c.loop-rest.rest.now 42 41 e.0 e.1) c.right-pos-in-Closing.ensures.line
    c.right-pos-in-Closing.ensures.col (omega arith)

pub loop-rest-preserved : goal.loop-rest-preserved
loop-rest-preserved c =
    let e = c.in-Byte.ensures in
    let rest = c.loop-rest.rest.now in
    let first : get_or rest 0 0 ≡ e.0 = ap (λ (t : List ℕ). get_or t 0 0) e.3 in
    let at = c.behind-pos.ensures ∙ ap (place_after c.loop-rest.pos) first in
    let on = goes_on c.args.text.now c.args.start c.loop-rest.levels rest c.loop-rest.pos e.0 e.1 e.2
    c.behind-pos.result c.loop-rest.invariant e.3 e.4 e.5 at in
    let P : List ℕ → Type 0 = λ s. Walks c.args.text.now c.args.start c.loop-rest.levels s c.behind-pos.result in
    subst P (from_second rest e.0 (e.1 ∷ e.2) e.3) on

pub returns-in-End : goal.returns-in-End
returns-in-End c = never c.args.text.now c.args.start c.loop-rest.levels c.loop-rest.rest.now c.loop-rest.pos
    c.loop-rest.invariant c.in-End.ensures
