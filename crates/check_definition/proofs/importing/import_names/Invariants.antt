use Rattle.std.proofs.Common.{◌≡◌, take}
use Rattle.std.specs.List.{fold}
use Rattle.check_definition.specs.Importing.{with_from}
use Rattle.check_scope.specs.Elaborated.{least}
use Rattle.check_definition.proofs.importing.import_names.Given as goal

abbrev pub invariant-loop-name : goal.invariant-loop-name
invariant-loop-name l = (l.scope, l.elaborated)
    ≡ fold (with_from least l.place l.exported) (l.fn.scope, l.fn.before) (take l.name-index l.names)
