use Rattle.std.proofs.Common.{◌≡◌, take, Ok}
use Rattle.std.specs.List.{fold}
use Rattle.check_definition.specs.Importing.{with_import}
use Rattle.check_scope.specs.Elaborated.{least}
use Rattle.check_definition.proofs.importing.import_all.Given as goal

abbrev pub invariant-loop-one : goal.invariant-loop-one
invariant-loop-one l = (l.scope, l.elaborated)
    ≡ fold (with_import least l.modules) (l.fn.scope, Ok tt) (take l.one-index l.imports)
