use Rattle.std.proofs.Common.{length}
use Rattle.scan_tokens.specs.Steps.{HasRoom, Skips}
use Rattle.scan_tokens.proofs.cut.cut_blanks.Given as goal

abbrev pub invariant-loop-cut : goal.invariant-loop-cut
invariant-loop-cut l = Skips l.fn.cut.rest.now l.fn.cut.pos l.cut.rest.now l.cut.pos × HasRoom l.cut.pos l.cut.rest.now

abbrev pub decreases-loop-cut : goal.decreases-loop-cut
decreases-loop-cut l = length l.cut.rest.now
