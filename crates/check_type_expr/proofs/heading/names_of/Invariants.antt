use Rattle.std.proofs.Common.{◌≡◌, take, Ok}
use Rattle.std.specs.List.{fold}
use Rattle.check_scope.specs.Elaborated.{least}
use Rattle.check_type_expr.specs.Fields.{no_fields}
use Rattle.check_type_expr.specs.Headings.{with_names}
use Rattle.check_type_expr.proofs.heading.names_of.Given as goal

abbrev pub invariant-loop-section : goal.invariant-loop-section
invariant-loop-section l = (l.fields, l.done)
    ≡ fold (with_names least) (no_fields, Ok tt) (take l.section-index l.heading.formals)
