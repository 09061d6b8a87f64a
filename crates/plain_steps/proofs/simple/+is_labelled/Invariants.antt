use Rattle.std.proofs.Common.{length}
use Rattle.plain_steps.proofs.simple.+is_labelled.Given as goal

abbrev pub decreases-is_labelled : goal.decreases-is_labelled
decreases-is_labelled l = length l.labels.now
