use Rattle.std.proofs.Common.{◌≡◌, take, Ok}
use Rattle.std.specs.List.{fold}
use Rattle.check_type_expr.specs.Made.{with_field_list}
use Rattle.check_type_expr.proofs.made.+types.Given as goal

abbrev pub invariant-fields_of-loop-field : goal.invariant-fields_of-loop-field
invariant-fields_of-loop-field l = (l.scope, l.fields, l.elaborated)
    ≡ fold with_field_list (l.fn.scope, l.fn.fields, Ok tt) (take l.field-index l.list)
