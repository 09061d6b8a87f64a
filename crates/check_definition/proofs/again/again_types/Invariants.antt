use Rattle.std.proofs.Common.{◌≡◌, take}
use Rattle.std.specs.List.{fold}
use Rattle.check_scope.specs.Elaborated.{least}
use Rattle.check_definition.specs.Again.{again_declared}
use Rattle.check_definition.proofs.again.again_types.Given as goal

abbrev pub invariant-loop-decl : goal.invariant-loop-decl
invariant-loop-decl l = (l.scope ≡ l.fn.scope)
    × ((l.elaborated, l.seen) ≡ fold (again_declared least l.fn.scope) (l.fn.before, l.fn.seen) (take l.decl-index l.list))
