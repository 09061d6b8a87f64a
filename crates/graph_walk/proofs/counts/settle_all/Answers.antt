use Rattle.std.proofs.Common.{arith}
use Rattle.graph_walk.proofs.Awaiting.{still_counted, settles_more}
use Rattle.graph_walk.proofs.counts.settle_all.Goals as goal

pub settle-requires-clause-within : goal.settle-requires-clause-within
settle-requires-clause-within c = (still_counted c.args.definitions.now c.args.done.now c.args.nodes.now
    c.loop-node.node-index _ _ _ _ (omega arith) c.requires c.loop-node.invariant).1

pub settle-requires-clause-some : goal.settle-requires-clause-some
settle-requires-clause-some c = (still_counted c.args.definitions.now c.args.done.now c.args.nodes.now
    c.loop-node.node-index _ _ _ _ (omega arith) c.requires c.loop-node.invariant).0

pub loop-node-preserved : goal.loop-node-preserved
loop-node-preserved c = settles_more c.args.definitions.now c.args.done.now c.args.nodes.now c.loop-node.node-index _ _
    _ _ _ _ (omega arith) c.loop-node.invariant c.in_ok-settle.ensures
