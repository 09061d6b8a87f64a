use Rattle.std.proofs.Common.{length}
use Rattle.plain_steps.proofs.entering.+add_variables.Given as goal

abbrev pub decreases-add_variables : goal.decreases-add_variables
decreases-add_variables l = length l.variables.now
