use Rattle.std.proofs.Common.{true}
use Rattle.emit_buffer.specs.Fitting.{module_fits}
use Rattle.layout_storage.proofs.Walks.{walked}
use Rattle.emit_buffer.proofs.fitting.others_fit.Goals as goal

pub loop-place-preserved : goal.loop-place-preserved
loop-place-preserved c = walked (module_fits c.args.types.now) true c.args.types.now.others c.loop-place.place
    c.loop-place.all _ _ c.loop-place.invariant c.get.ensures c.module_fits-all.ensures
