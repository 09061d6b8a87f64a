use Rattle.std.proofs.Common.{[]}
use Rattle.check_definition.specs.Export.{with_types}
use Rattle.check_definition.proofs.Walks.{walked}
use Rattle.check_definition.proofs.export.reached_of.Goals as goal

pub loop-place-preserved : goal.loop-place-preserved
loop-place-preserved c = walked with_types [] c.args.types.others c.loop-place.place c.loop-place.reached _ _
    c.loop-place.invariant c.get.ensures c.in_ok-with_types_if.ensures
