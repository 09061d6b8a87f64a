use Rattle.std.proofs.Common.{length, refl, arith}
use Rattle.graph_walk.proofs.Sweeping.{swept_none, swept_next}
use Rattle.graph_walk.proofs.cycle.cyclic.Goals as goal

pub loop-node-init : goal.loop-node-init
loop-node-init c = swept_none _ _ (length c.args.links.now) _ _ c.in_ok-led.ensures c.in_ok-flags.ensures refl

pub loop-node-preserved : goal.loop-node-preserved
loop-node-preserved c = swept_next _ _ _ _ _ _ _ _ _ _ _ _ _ c.requires.order c.in-Some.ensures
    c.deref_mut.ensures.value (omega (arith, c.loop-node.led.ok.0)) c.deref_mut-in-Some.ensures.value
    (omega (arith, c.loop-node.flags.ok.0)) c.loop-node.invariant c.in_ok-sweep.ensures
