use Rattle.std.proofs.Common.{◌<◌, length, get_or, refl, arith}
use Rattle.graph_walk.proofs.Marking.{unmarks_none, unmarks_more, unmarks_all}
use Rattle.graph_walk.proofs.flags.unmark_all.Goals as goal

pub loop-node-init : goal.loop-node-init
loop-node-init c = unmarks_none c.args.flags.now

pub loop-node-preserved : goal.loop-node-preserved
loop-node-preserved c =
    let h : get_or c.args.nodes.now c.loop-node.node-index 0 < length c.args.flags.now =
    c.requires c.loop-node.node-index 0 (omega arith) in
    unmarks_more c.args.nodes.now c.loop-node.node-index _ c.loop-node.flags _ (omega arith)
    (omega (arith, h, c.loop-node.invariant.same)) refl c.loop-node.invariant

pub returns : goal.returns
returns c = unmarks_all _ _ _ _ (omega arith) c.loop-node.invariant
