use Rattle.std.proofs.Common.{◌≡◌, take}
use Rattle.std.specs.List.{fold}
use Rattle.check_scope.specs.Elaborated.{least}
use Rattle.check_definition.specs.Again.{again_constant}
use Rattle.check_definition.proofs.again.again_constants.Given as goal

abbrev pub invariant-loop-constant : goal.invariant-loop-constant
invariant-loop-constant l = (l.scope ≡ l.fn.scope)
    × ((l.elaborated, l.seen) ≡ fold (again_constant least l.fn.scope) (l.fn.before, l.fn.seen) (take l.constant-index l.list))
