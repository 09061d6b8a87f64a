use Rattle.std.proofs.Common.{length}
use Rattle.plain_steps.proofs.entering.+pass_all.Given as goal

abbrev pub decreases-pass_all : goal.decreases-pass_all
decreases-pass_all l = length l.formals.now
