use Rattle.std.proofs.lemmas.Result.{err_from_is_err_and}
use Rattle.link_parts.specs.Fitting.{uses_from}
use Rattle.link_parts.specs.Held.{known_of, with_uses}
use Rattle.link_parts.proofs.Seeing.{parts_more, parts_fail, parts_none}
use Rattle.link_parts.proofs.fitting.add_parts.Goals as goal

pub returns-in_err-add_part : goal.returns-in_err-add_part
returns-in_err-add_part c =
    let p = err_from_is_err_and c.from_residual.result c.from_residual.ensures.1 in
    rw (p.1, p.2) (parts_fail c.args.parts.now c.loop-number.number (known_of c.loop-number.known)
    (with_uses (uses_from 0 c.args.parts.now) (known_of c.args.known.now)) c.index-parts-number.result
    c.in_err-add_part.field-0.0 (known_of c.add_part.new.known) (known_of c.add_part.new.known) c.loop-number-test.true
    c.index-parts-number.is c.in_err-add_part.ensures c.loop-number.invariant)

pub loop-number-preserved : goal.loop-number-preserved
loop-number-preserved c =
    parts_more c.args.parts.now c.loop-number.number (known_of c.loop-number.known)
    (with_uses (uses_from 0 c.args.parts.now) (known_of c.args.known.now)) c.index-parts-number.result
    (known_of c.add_part.new.known) c.loop-number-test.true c.index-parts-number.is c.in_ok-add_part.ensures
    c.loop-number.invariant

pub returns : goal.returns
returns c =
    parts_none c.args.parts.now c.loop-number.number (known_of c.loop-number.known)
    (with_uses (uses_from 0 c.args.parts.now) (known_of c.args.known.now)) c.loop-number-test.false
    c.loop-number.invariant
