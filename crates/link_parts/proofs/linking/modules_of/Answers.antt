use Rattle.m2_emit.specs.Emitted.{parts}
use Rattle.link_parts.proofs.Starting.{one_more}
use Rattle.link_parts.proofs.linking.modules_of.Goals as goal

pub loop-start-preserved : goal.loop-start-preserved
loop-start-preserved c =
    one_more c.args.stands.now c.args.starts.now c.loop-start.start-index 0 _ (parts c.loop-start.modules.items)
    (parts c.add_module.new.modules.items) c.loop-start-test.true c.at.ensures c.loop-start.invariant
    c.in_ok-add_module.ensures
