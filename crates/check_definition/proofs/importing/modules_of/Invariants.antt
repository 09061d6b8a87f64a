use Rattle.std.proofs.Common.{◌≡◌, take}
use Rattle.check_definition.specs.Importing.{numbered_modules}
use Rattle.check_definition.proofs.importing.modules_of.Given as goal

abbrev pub invariant-loop-place : goal.invariant-loop-place
invariant-loop-place l = (l.modules, l.place) ≡ numbered_modules (take l.place l.tables)
