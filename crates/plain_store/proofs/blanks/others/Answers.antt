use Rattle.std.proofs.Common.{[]}
use Rattle.plain_store.specs.Blanks.{with_module}
use Rattle.plain_store.proofs.Fields.{walked}
use Rattle.plain_store.proofs.blanks.others.Goals as goal

pub loop-place-preserved : goal.loop-place-preserved
loop-place-preserved c = walked (with_module c.args.types.now) [] c.args.types.now.others c.loop-place.place
    c.loop-place.modules _ _ c.loop-place.invariant c.get.ensures c.in_ok-modules.ensures
