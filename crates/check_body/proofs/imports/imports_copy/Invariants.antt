use Rattle.std.proofs.Common.{◌≡◌, [], take}
use Rattle.std.specs.List.{fold}
use Rattle.check_body.specs.Imports.{with_import_copy}
use Rattle.check_body.proofs.imports.imports_copy.Given as goal

abbrev pub invariant-loop-place : goal.invariant-loop-place
invariant-loop-place l = l.imports ≡ fold with_import_copy [] (take l.place l.list)
