use Rattle.std.proofs.Common.{◌≡◌, take, Ok, []}
use Rattle.std.specs.List.{fold}
use Rattle.check_expr.specs.Meanings.{factor_in, term_in, pick_in, actual_in, look_in, constant_factor_in, constant_term_in, item_in}
use Rattle.check_expr.proofs.body.+body.Given as goal

abbrev pub invariant-selection-loop-selector : goal.invariant-selection-loop-selector
invariant-selection-loop-selector l = l.designated
    ≡ fold (pick_in l.scope) l.fn.first (take l.selector-index l.selectors)

abbrev pub invariant-factors-loop-operator : goal.invariant-factors-loop-operator
invariant-factors-loop-operator l = l.value ≡ fold (factor_in l.scope l.at) l.fn.left (take l.operator-index l.rest)

abbrev pub invariant-terms-loop-operator : goal.invariant-terms-loop-operator
invariant-terms-loop-operator l = l.value ≡ fold (term_in l.scope l.at) l.fn.left (take l.operator-index l.rest)

abbrev pub invariant-actuals-loop-arg : goal.invariant-actuals-loop-arg
invariant-actuals-loop-arg l = (l.left, l.arguments)
    ≡ fold (actual_in l.scope) (l.formals, Ok []) (take l.arg-index l.args)

abbrev pub invariant-breaches_in_all-loop-arg : goal.invariant-breaches_in_all-loop-arg
invariant-breaches_in_all-loop-arg l = l.done ≡ fold (look_in l.scope) (Ok tt) (take l.arg-index l.args)

abbrev pub invariant-constant_factors-loop-operator : goal.invariant-constant_factors-loop-operator
invariant-constant_factors-loop-operator l =
    l.value ≡ fold (constant_factor_in l.scope l.at) l.fn.left (take l.operator-index l.rest)

abbrev pub invariant-constant_terms-loop-operator : goal.invariant-constant_terms-loop-operator
invariant-constant_terms-loop-operator l =
    l.value ≡ fold (constant_term_in l.scope l.at) l.fn.left (take l.operator-index l.rest)

abbrev pub invariant-elements-loop-item : goal.invariant-elements-loop-item
invariant-elements-loop-item l = l.bits ≡ fold (item_in l.scope) (Ok 0) (take l.item-index l.items)
