use Rattle.std.proofs.Common.{take}
use Rattle.build_jobs.specs.Reading.{AreRead}
use Rattle.build_jobs.proofs.in_turn.read_in_turn.Given as goal

abbrev pub invariant-loop-file : goal.invariant-loop-file
invariant-loop-file l = AreRead (take l.file-index l.files) l.reads.items
