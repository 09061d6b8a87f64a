use Rattle.std.proofs.Common.{◌≡◌, take}
use Rattle.std.specs.List.{fold}
use Rattle.check_scope.specs.Elaborated.{least}
use Rattle.check_definition.specs.Again.{again_variables}
use Rattle.check_definition.proofs.again.again_variables.Given as goal

abbrev pub invariant-loop-variables : goal.invariant-loop-variables
invariant-loop-variables l = (l.scope ≡ l.fn.scope)
    × ((l.elaborated, l.seen) ≡ fold (again_variables least l.fn.scope) (l.fn.before, l.fn.seen) (take l.variables-index l.list))
