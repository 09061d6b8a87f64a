use Rattle.std.proofs.Common.{length}
use Rattle.plain_steps.proofs.simple.+chosen_arm.Given as goal

abbrev pub decreases-chosen_arm : goal.decreases-chosen_arm
decreases-chosen_arm l = length l.arms.now
