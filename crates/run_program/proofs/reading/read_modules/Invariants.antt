use Rattle.std.proofs.Common.{◌∷◌, take, map}
use Rattle.m2c.specs.Build.{AreEncoded}
use Rattle.run_program.specs.Reading.{bytes_of}
use Rattle.run_program.proofs.reading.read_modules.Given as goal

abbrev pub invariant-loop-other : goal.invariant-loop-other
invariant-loop-other l = AreEncoded (l.link ∷ map bytes_of (take l.other-index l.others)) l.modules.items
