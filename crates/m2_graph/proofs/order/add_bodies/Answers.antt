use Rattle.std.proofs.Common.{arith}
use Rattle.m2_graph.proofs.Bodies.{bodies_more}
use Rattle.m2_graph.proofs.order.add_bodies.Goals as goal

pub loop-number-preserved : goal.loop-number-preserved
loop-number-preserved c = bodies_more c.args.modules.now c.loop-number.number c.index-modules-number.result
    c.args.order.now c.loop-number.order _ (omega arith) c.index-modules-number.is c.loop-number.invariant
    c.in_ok-add_if_body.ensures
