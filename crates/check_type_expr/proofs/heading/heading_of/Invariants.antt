use Rattle.std.proofs.Common.{◌≡◌, take, Ok, []}
use Rattle.std.specs.List.{fold}
use Rattle.check_scope.specs.Elaborated.{least}
use Rattle.check_type_expr.specs.Headings.{with_section}
use Rattle.check_type_expr.proofs.heading.heading_of.Given as goal

abbrev pub invariant-loop-section : goal.invariant-loop-section
invariant-loop-section l = l.formals ≡ fold (with_section least l.scope) (Ok [])
    (take l.section-index l.heading.formals)
