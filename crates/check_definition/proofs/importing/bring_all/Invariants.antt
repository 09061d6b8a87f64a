use Rattle.std.proofs.Common.{◌≡◌, take, Ok}
use Rattle.std.specs.List.{fold}
use Rattle.check_definition.specs.Importing.{with_entry}
use Rattle.check_scope.specs.Elaborated.{least}
use Rattle.std.specs.Prelude.{drop}
use Rattle.check_definition.proofs.importing.bring_all.Given as goal

abbrev pub invariant-loop-k : goal.invariant-loop-k
invariant-loop-k l = (l.scope, l.elaborated)
    ≡ fold (with_entry least l.at l.place) (l.fn.scope, Ok tt) (take l.k (drop l.first l.exported))
