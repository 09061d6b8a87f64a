use Rattle.std.proofs.Common.{length}
use Rattle.plain_steps.proofs.callees.+home_at.Given as goal

abbrev pub decreases-home_at : goal.decreases-home_at
decreases-home_at l = length l.modules.now
