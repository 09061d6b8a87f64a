use Rattle.std.proofs.Common.{length}
use Rattle.plain_steps.proofs.callees.+entries_before.Given as goal

abbrev pub decreases-entries_before : goal.decreases-entries_before
decreases-entries_before l = length l.modules.now
