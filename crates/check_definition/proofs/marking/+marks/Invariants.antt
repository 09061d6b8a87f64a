use Rattle.std.proofs.Common.{◌≡◌, take}
use Rattle.std.specs.List.{fold}
use Rattle.check_definition.specs.Marking.{marked_with_field}
use Rattle.check_definition.proofs.marking.+marks.Given as goal

abbrev pub invariant-mark_fields-loop-field : goal.invariant-mark_fields-loop-field
invariant-mark_fields-loop-field l = l.scope ≡ fold marked_with_field l.fn.scope (take l.field-index l.fields)
