use Rattle.std.proofs.Common.{[]}
use Rattle.check_body.specs.Own.{with_own_name}
use Rattle.check_definition.proofs.Walks.{walked}
use Rattle.check_body.proofs.own.own_names.Goals as goal

pub loop-place-preserved : goal.loop-place-preserved
loop-place-preserved c = walked with_own_name [] c.args.exported.now c.loop-place.place c.loop-place.names _ _
    c.loop-place.invariant c.get.ensures c.in_ok-with_own_name_if.ensures
