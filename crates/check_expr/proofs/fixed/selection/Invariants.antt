use Rattle.std.proofs.Common.{◌≡◌, take}
use Rattle.std.specs.List.{fold}
use Rattle.check_expr.specs.Meanings.{constant_pick_in}
use Rattle.check_expr.proofs.fixed.selection.Given as goal

abbrev pub invariant-loop-selector : goal.invariant-loop-selector
invariant-loop-selector l = l.denoted ≡ fold (constant_pick_in l.scope) l.fn.first (take l.selector-index l.selectors)
