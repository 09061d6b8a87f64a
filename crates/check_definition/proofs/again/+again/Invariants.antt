use Rattle.std.proofs.Common.{◌≡◌, take}
use Rattle.std.specs.List.{fold}
use Rattle.check_scope.specs.Elaborated.{least}
use Rattle.check_definition.specs.Again.{with_field}
use Rattle.check_definition.proofs.again.+again.Given as goal

abbrev pub invariant-again_fields-loop-field : goal.invariant-again_fields-loop-field
invariant-again_fields-loop-field l = (l.scope ≡ l.fn.scope)
    × ((l.elaborated, l.seen) ≡ fold (with_field least l.fn.scope) (l.fn.before, l.fn.seen) (take l.field-index l.fields))
