use Rattle.std.proofs.Common.{◌≡◌, ◌++◌, take}
use Rattle.check_type_expr.specs.Headings.{formal_for_each}
use Rattle.check_type_expr.proofs.heading.with_section.Given as goal

abbrev pub invariant-loop-name : goal.invariant-loop-name
invariant-loop-name l = l.all ≡ l.initial.all ++ formal_for_each l.one (take l._name-index l.section.names)
