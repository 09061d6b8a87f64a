use Rattle.std.proofs.Common.{length}
use Rattle.plain_store.proofs.blanks.+total.Given as goal

abbrev pub decreases-total : goal.decreases-total
decreases-total l = length l.blanks.now
