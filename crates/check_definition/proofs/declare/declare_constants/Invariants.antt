use Rattle.std.proofs.Common.{◌≡◌, take}
use Rattle.std.specs.List.{fold}
use Rattle.check_definition.specs.Declare.{with_constant}
use Rattle.check_scope.specs.Elaborated.{least}
use Rattle.check_definition.proofs.declare.declare_constants.Given as goal

abbrev pub invariant-loop-constant : goal.invariant-loop-constant
invariant-loop-constant l = (l.scope, l.elaborated)
    ≡ fold (with_constant least) (l.fn.scope, l.fn.before) (take l.constant-index l.list)
