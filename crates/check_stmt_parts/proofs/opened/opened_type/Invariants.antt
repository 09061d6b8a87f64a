use Rattle.std.proofs.Common.{◌≡◌, take}
use Rattle.std.specs.List.{fold}
use Rattle.m2_tree.specs.declared.expr.Designator.{out-Designator}
use Rattle.check_scope.specs.Elaborated.{least}
use Rattle.check_expr.specs.Meanings.{first_name}
use Rattle.check_stmt_parts.specs.Simple.{known_of, component_behind}
use Rattle.check_stmt_parts.proofs.opened.opened_type.Given as goal

abbrev pub invariant-loop-selector : goal.invariant-loop-selector
invariant-loop-selector l = l.designated
    ≡ fold (component_behind least l.scope) (known_of (first_name least l.scope (out-Designator l.designator).name))
    (take l.selector-index (out-Designator l.designator).selectors)
