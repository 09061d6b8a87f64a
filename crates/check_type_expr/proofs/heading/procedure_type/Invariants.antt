use Rattle.std.proofs.Common.{◌≡◌, take, Ok, []}
use Rattle.std.specs.List.{fold}
use Rattle.check_scope.specs.Elaborated.{least}
use Rattle.check_type_expr.specs.Headings.{with_parameter}
use Rattle.check_type_expr.proofs.heading.procedure_type.Given as goal

abbrev pub invariant-loop-parameter : goal.invariant-loop-parameter
invariant-loop-parameter l = l.formals ≡ fold (with_parameter least l.scope) (Ok []) (take l.parameter-index l.list)
