use Rattle.std.proofs.Common.{◌≡◌, take}
use Rattle.std.specs.List.{fold}
use Rattle.check_definition.specs.Marking.{marked_type}
use Rattle.check_definition.proofs.marking.mark_types.Given as goal

abbrev pub invariant-loop-decl : goal.invariant-loop-decl
invariant-loop-decl l = l.scope ≡ fold marked_type l.fn.scope (take l.decl-index l.list)
