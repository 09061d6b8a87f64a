use Rattle.std.proofs.Common.{length}
use Rattle.plain_run.proofs.whole.+prepare_run.Given as goal

abbrev pub decreases-prepare_run : goal.decreases-prepare_run
decreases-prepare_run l = length l.modules.now
