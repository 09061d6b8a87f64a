use Rattle.graph_walk.proofs.Turning.{nodes_more}
use Rattle.graph_walk.proofs.reversal.all_nodes.Goals as goal

pub loop-node-preserved : goal.loop-node-preserved
loop-node-preserved c = nodes_more c.loop-node.nodes _ c.loop-node.node c.loop-node.invariant c.in_ok-push.ensures.ok
