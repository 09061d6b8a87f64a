use Rattle.std.proofs.Common.{◌≡◌, take}
use Rattle.std.specs.List.{fold}
use Rattle.check_definition.specs.Export.{with_imported}
use Rattle.check_definition.proofs.export.with_import_of.Given as goal

abbrev pub invariant-loop-name : goal.invariant-loop-name
invariant-loop-name l = l.imported ≡ fold (with_imported l.modules l.tables) l.fn.imported
    (take l.name-index l.one.names)
