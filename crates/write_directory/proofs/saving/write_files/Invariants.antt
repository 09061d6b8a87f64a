use Rattle.std.proofs.Common.{map, take}
use Rattle.write_directory.specs.Borrowed.{files_borrowed}
use Rattle.write_directory.specs.Calls.{write_call}
use Rattle.write_directory.specs.Saves.{AreMade}
use Rattle.write_directory.proofs.saving.write_files.Given as goal

abbrev pub invariant-loop-file : goal.invariant-loop-file
invariant-loop-file g l = AreMade g.D.OutDir.calls g.D.OutDir.failed
    (map write_call (files_borrowed (take l.file-index l.files))) l.fn.dir l.dir
