use Rattle.std.proofs.Common.{length}
use Rattle.plain_store.proofs.blanks.+kept_of.Given as goal

abbrev pub decreases-kept_of : goal.decreases-kept_of
decreases-kept_of l = length l.known.now
