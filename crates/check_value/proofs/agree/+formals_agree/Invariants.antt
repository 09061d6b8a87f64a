use Rattle.std.proofs.Common.{length}
use Rattle.check_value.proofs.agree.+formals_agree.Given as goal

abbrev pub decreases-formals_agree : goal.decreases-formals_agree
decreases-formals_agree l = length l.first.now
