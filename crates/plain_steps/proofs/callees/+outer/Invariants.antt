use Rattle.std.proofs.Common.{length}
use Rattle.plain_steps.proofs.callees.+outer.Given as goal

abbrev pub decreases-outer : goal.decreases-outer
decreases-outer l = length l.frames.now
