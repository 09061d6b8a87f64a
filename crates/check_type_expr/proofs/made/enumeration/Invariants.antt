use Rattle.std.proofs.Common.{◌≡◌, take}
use Rattle.check_scope.specs.Elaborated.{least}
use Rattle.check_type_expr.specs.Made.{enumeration_of}
use Rattle.check_type_expr.proofs.made.enumeration.Given as goal

abbrev pub invariant-loop-number : goal.invariant-loop-number
invariant-loop-number l = (l.scope, l.number, l.elaborated)
    ≡ enumeration_of least l.t l.initial.scope l.initial.elaborated (take l.number l.names)
