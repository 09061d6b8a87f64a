use Rattle.std.proofs.Common.{length}
use Rattle.m2c.proofs.outcome.+program_file.Given as goal

abbrev pub decreases-program_file : goal.decreases-program_file
decreases-program_file l = length l.trees.now
