use Rattle.std.proofs.Common.{◌≡◌, take, Ok, []}
use Rattle.std.specs.List.{fold}
use Rattle.check_scope.specs.Elaborated.{least}
use Rattle.check_stmt_parts.specs.Labels.{with_item}
use Rattle.check_stmt_parts.proofs.label.labels_in.Given as goal

abbrev pub invariant-loop-item : goal.invariant-loop-item
invariant-loop-item l = (l.ranges, l.labels)
    ≡ fold (with_item least l.scope l.base) (l.fn.ranges, Ok []) (take l.item-index l.items)
