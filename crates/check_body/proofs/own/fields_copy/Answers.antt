use Rattle.std.proofs.Common.{[]}
use Rattle.check_body.specs.Own.{with_field_copy}
use Rattle.check_definition.proofs.Walks.{walked}
use Rattle.check_body.proofs.own.fields_copy.Goals as goal

pub loop-place-preserved : goal.loop-place-preserved
loop-place-preserved c = walked with_field_copy [] c.args.fields.now c.loop-place.place c.loop-place.copy _ _
    c.loop-place.invariant c.get.ensures c.in_ok-with_field_if.ensures
