use Rattle.std.proofs.Common.{[]}
use Rattle.layout_storage.specs.Making.{with_module}
use Rattle.layout_storage.proofs.Walks.{walked}
use Rattle.layout_storage.proofs.making.others_of.Goals as goal

pub loop-place-preserved : goal.loop-place-preserved
loop-place-preserved c = walked (with_module c.args.types.now) [] c.args.types.now.others c.loop-place.place
    c.loop-place.modules _ _ c.loop-place.invariant c.get.ensures c.in_ok-modules.ensures
