use Rattle.std.proofs.Common.{◌≡◌, map, take}
use Rattle.write_directory.specs.Borrowed.{files_borrowed}
use Rattle.write_directory.specs.Calls.{module_file}
use Rattle.write_directory.proofs.saving.files_of.Given as goal

abbrev pub invariant-loop-module : goal.invariant-loop-module
invariant-loop-module l = files_borrowed l.files.items ≡ map module_file (take l.module-index l.modules)
