use Rattle.std.proofs.Common.{◌<◌, length, get_or, arith}
use Rattle.graph_walk.proofs.Turning.{gathers_more}
use Rattle.graph_walk.proofs.reversal.add_pairs.Goals as goal

pub loop-node-preserved : goal.loop-node-preserved
loop-node-preserved c =
    let h : get_or c.args.nodes.now c.loop-node.node-index 0 < length c.args.rows.now =
    c.requires c.loop-node.node-index 0 (omega arith) in
    gathers_more c.args.nodes.now c.loop-node.node-index c.args.to c.args.rows.now c.loop-node.rows _ (omega arith)
    (omega (arith, h, c.loop-node.invariant.same)) c.loop-node.invariant c.in_ok-add_pair.ensures
