use Rattle.std.proofs.Common.{length}
use Rattle.plain_run.proofs.whole.+data_size.Given as goal

abbrev pub decreases-data_size : goal.decreases-data_size
decreases-data_size l = length l.homes.now
