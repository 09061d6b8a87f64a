use Rattle.std.proofs.Common.{◌≡◌, take}
use Rattle.std.specs.List.{fold}
use Rattle.check_definition.specs.Marking.{marked_later}
use Rattle.check_definition.proofs.marking.mark_names.Given as goal

abbrev pub invariant-loop-name : goal.invariant-loop-name
invariant-loop-name l = l.scope ≡ fold marked_later l.fn.scope (take l.name-index l.names)
