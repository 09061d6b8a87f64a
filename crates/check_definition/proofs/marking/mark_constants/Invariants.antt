use Rattle.std.proofs.Common.{◌≡◌, take}
use Rattle.std.specs.List.{fold}
use Rattle.check_definition.specs.Marking.{marked_constant}
use Rattle.check_definition.proofs.marking.mark_constants.Given as goal

abbrev pub invariant-loop-constant : goal.invariant-loop-constant
invariant-loop-constant l = l.scope ≡ fold marked_constant l.fn.scope (take l.constant-index l.list)
