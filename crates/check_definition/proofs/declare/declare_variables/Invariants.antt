use Rattle.std.proofs.Common.{◌≡◌, take}
use Rattle.std.specs.List.{fold}
use Rattle.check_definition.specs.Declare.{with_owned}
use Rattle.check_scope.specs.Elaborated.{least}
use Rattle.check_definition.proofs.declare.declare_variables.Given as goal

abbrev pub invariant-loop-variables : goal.invariant-loop-variables
invariant-loop-variables l = (l.scope, l.elaborated)
    ≡ fold (with_owned least l.owner) (l.fn.scope, l.fn.before) (take l.variables-index l.list)
