use Rattle.std.proofs.Common.{length}
use Rattle.plain_run.proofs.whole.+bodies.Given as goal

abbrev pub decreases-bodies : goal.decreases-bodies
decreases-bodies l = length l.homes.now
