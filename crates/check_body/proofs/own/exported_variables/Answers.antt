use Rattle.std.proofs.Common.{[]}
use Rattle.check_body.specs.Own.{with_exported_variable}
use Rattle.check_definition.proofs.Walks.{walked}
use Rattle.check_body.proofs.own.exported_variables.Goals as goal

pub loop-place-preserved : goal.loop-place-preserved
loop-place-preserved c = walked with_exported_variable [] c.args.exported.now c.loop-place.place c.loop-place.types _ _
    c.loop-place.invariant c.get.ensures c.in_ok-with_variable_if.ensures
