use Rattle.std.proofs.Common.{◌≡◌, take}
use Rattle.check_definition.specs.Export.{imported_modules}
use Rattle.check_definition.proofs.export.imported_modules.Given as goal

abbrev pub invariant-loop-one : goal.invariant-loop-one
invariant-loop-one l = l.imported ≡ imported_modules l.modules l.tables (take l.one-index l.imports)
