use Rattle.std.proofs.Common.{◌≡◌, take}
use Rattle.std.specs.List.{fold}
use Rattle.check_definition.specs.Declare.{begun_name}
use Rattle.check_scope.specs.Elaborated.{least}
use Rattle.check_definition.proofs.declare.begin_all.Given as goal

abbrev pub invariant-loop-name : goal.invariant-loop-name
invariant-loop-name l = (l.scope, l.elaborated)
    ≡ fold (begun_name least) (l.fn.scope, l.fn.before) (take l.name-index l.names)
