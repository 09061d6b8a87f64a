use Rattle.std.proofs.Common.{length}
use Rattle.plain_steps.proofs.callees.+procedure_at.Given as goal

abbrev pub decreases-procedure_at : goal.decreases-procedure_at
decreases-procedure_at l = length l.modules.now
