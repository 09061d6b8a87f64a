use Rattle.std.proofs.Common.{◌≡◌, take}
use Rattle.std.specs.List.{fold}
use Rattle.check_definition.specs.Declare.{with_type}
use Rattle.check_scope.specs.Elaborated.{least}
use Rattle.check_definition.proofs.declare.declare_types.Given as goal

abbrev pub invariant-loop-decl : goal.invariant-loop-decl
invariant-loop-decl l = (l.scope, l.elaborated)
    ≡ fold (with_type least) (l.fn.scope, l.fn.before) (take l.decl-index l.list)
