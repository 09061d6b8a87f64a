use Rattle.std.proofs.Common.{◌≡◌, take}
use Rattle.std.specs.List.{fold}
use Rattle.check_scope.specs.Elaborated.{least}
use Rattle.check_definition.specs.Again.{again_def}
use Rattle.check_definition.proofs.again.again_defs.Given as goal

abbrev pub invariant-loop-def : goal.invariant-loop-def
invariant-loop-def l = (l.scope ≡ l.fn.scope)
    × ((l.elaborated, l.seen) ≡ fold (again_def least l.fn.scope) (l.fn.before, l.first) (take l.def-index l.defs))
