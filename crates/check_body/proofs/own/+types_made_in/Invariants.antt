use Rattle.std.proofs.Common.{length}
use Rattle.check_body.proofs.own.+types_made_in.Given as goal

abbrev pub decreases-types_made_in : goal.decreases-types_made_in
decreases-types_made_in l = length l.reached.now
