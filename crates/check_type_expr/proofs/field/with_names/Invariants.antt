use Rattle.std.proofs.Common.{◌≡◌, take}
use Rattle.std.specs.List.{fold}
use Rattle.check_scope.specs.Elaborated.{least}
use Rattle.check_type_expr.specs.Fields.{with_name}
use Rattle.check_type_expr.proofs.field.with_names.Given as goal

abbrev pub invariant-loop-name : goal.invariant-loop-name
invariant-loop-name l = (l.fields, l.elaborated)
    ≡ fold (with_name least l.t l.cells) (l.fn.fields, l.fn.before) (take l.name-index l.names)
