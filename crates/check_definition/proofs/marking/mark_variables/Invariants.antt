use Rattle.std.proofs.Common.{◌≡◌, take}
use Rattle.std.specs.List.{fold}
use Rattle.check_definition.specs.Marking.{marked_variables}
use Rattle.check_definition.proofs.marking.mark_variables.Given as goal

abbrev pub invariant-loop-variables : goal.invariant-loop-variables
invariant-loop-variables l = l.scope ≡ fold marked_variables l.fn.scope (take l.variables-index l.list)
