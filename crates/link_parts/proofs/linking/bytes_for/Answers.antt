use Rattle.link_parts.proofs.Sizing.{one_more_sized}
use Rattle.link_parts.proofs.linking.bytes_for.Goals as goal

pub loop-module-preserved : goal.loop-module-preserved
loop-module-preserved c =
    one_more_sized c.args.modules.now c.loop-module.module-index c.module-item.result c.loop-module.bytes
    c.saturating_add-bytes.result c.from.result c.from-in-loop-module.result c.loop-module-test.true
    c.module-item.is
    c.loop-module.invariant c.from.ensures c.from-in-loop-module.ensures c.saturating_add-bytes.ensures
