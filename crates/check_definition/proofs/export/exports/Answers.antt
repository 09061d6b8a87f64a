use Rattle.std.proofs.Common.{[]}
use Rattle.check_definition.specs.Export.{with_export}
use Rattle.check_definition.proofs.Walks.{walked}
use Rattle.check_definition.proofs.export.exports.Goals as goal

pub loop-place-preserved : goal.loop-place-preserved
loop-place-preserved c = walked with_export [] c.args.own.now c.loop-place.place c.loop-place.exported _ _
    c.loop-place.invariant c.get.ensures c.in_ok-with_export_if.ensures
