use Rattle.std.proofs.Common.{length}
use Rattle.plain_steps.proofs.entering.+copies_size.Given as goal

abbrev pub decreases-copies_size : goal.decreases-copies_size
decreases-copies_size l = length l.formals.now
