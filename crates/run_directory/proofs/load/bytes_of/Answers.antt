use Rattle.std.proofs.Common.{[], refl}
use Rattle.run_directory.specs.Reported.{Unasked}
use Rattle.run_directory.proofs.FileReads.{none_read}
use Rattle.run_directory.proofs.load.bytes_of.Goals as goal

pub returns-in_default-clause-err : goal.returns-in_default-clause-err
returns-in_default-clause-err g c = ([], none_read g.D.InDir.reads g.D.InDir.gives c.args.dir.now, (refl, Unasked))
