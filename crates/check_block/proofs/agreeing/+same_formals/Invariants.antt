use Rattle.std.proofs.Common.{length}
use Rattle.check_block.proofs.agreeing.+same_formals.Given as goal

abbrev pub decreases-same_formals : goal.decreases-same_formals
decreases-same_formals l = length l.first.now
