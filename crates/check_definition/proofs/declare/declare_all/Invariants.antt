use Rattle.std.proofs.Common.{◌≡◌, take}
use Rattle.std.specs.List.{fold}
use Rattle.check_definition.specs.Declare.{with_def}
use Rattle.check_scope.specs.Elaborated.{least}
use Rattle.check_definition.proofs.declare.declare_all.Given as goal

abbrev pub invariant-loop-def : goal.invariant-loop-def
invariant-loop-def l = (l.scope, l.elaborated)
    ≡ fold (with_def least) (l.fn.scope, l.fn.before) (take l.def-index l.defs)
