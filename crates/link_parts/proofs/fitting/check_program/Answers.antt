use Rattle.std.proofs.Common.{arith}
use Rattle.link_parts.proofs.Programs.{there, first_more, all_first, here_first, here_other}
use Rattle.link_parts.proofs.fitting.check_program.Goals.{then-part+else-number-gt0, else-part+else-number-eq0}
use Rattle.link_parts.proofs.fitting.check_program.Goals as goal

pub returns-then-number-gt0-clause-fault : goal.returns-then-number-gt0-clause-fault
returns-then-number-gt0-clause-fault c = (
  c.index-parts-number.result,
  there c.args.parts.now c.loop-number.number c.index-parts-number.result
      c.loop-number-test.true c.index-parts-number.is,
  c.if-part.true,
  c.if-number-gt0.true,
)

pub loop-number-preserved : goal.loop-number-preserved
loop-number-preserved c = first_more c.args.parts.now c.loop-number.number c.index-parts-number.result
    c.loop-number-test.true c.index-parts-number.is
    (elim c.if-part.branch [
      | then-part+else-number-gt0 w ↦ here_first c.loop-number.number c.index-parts-number.result.is_program
          w.if-part.true w.if-number-gt0.false
      | else-part+else-number-eq0 w ↦ here_other c.loop-number.number c.index-parts-number.result.is_program
          w.if-part.false (let n = w.if-number-eq0.false in omega arith)
    ])
    c.loop-number.invariant

pub returns-clause-fits : goal.returns-clause-fits
returns-clause-fits c = record {
  some = grind (arith, c.is_empty.ensures, c.if-is_empty.false);
  first = all_first c.args.parts.now c.loop-number.number c.loop-number-test.false c.loop-number.invariant;
}
