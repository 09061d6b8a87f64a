use Rattle.std.proofs.Common.{◌≡◌, take}
use Rattle.check_body.specs.Imports.{typed_imports}
use Rattle.check_body.proofs.imports.typed_imports.Given as goal

abbrev pub invariant-loop-place : goal.invariant-loop-place
invariant-loop-place l = l.imports ≡ typed_imports l.modules l.tables (take l.place l.names)
