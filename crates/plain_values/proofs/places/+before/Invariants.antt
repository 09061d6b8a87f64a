use Rattle.std.proofs.Common.{length}
use Rattle.plain_values.proofs.places.+before.Given as goal

abbrev pub decreases-before : goal.decreases-before
decreases-before l = length l.modules.now
