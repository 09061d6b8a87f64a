use Rattle.graph_walk.specs.Cycles.{IsCycleOrder}
use Rattle.graph_walk.specs.Starts.{IsStartOrder}
use Rattle.std.proofs.Common.{length}
use Rattle.graph_walk.proofs.Turning.{back_nodes, cycle_order_from, ok_then}
use Rattle.graph_walk.proofs.cycle.cycle_order.Goals as goal

pub start_order-requires-clause-nodes : goal.start_order-requires-clause-nodes
start_order-requires-clause-nodes c = back_nodes c.args.links.now c.args.back.now c.requires.turned

pub returns : goal.returns
returns c = ok_then (IsStartOrder c.args.back.now (length c.args.links.now)) (IsCycleOrder c.args.links.now)
    c.start_order.result (λ order h. cycle_order_from c.args.links.now c.args.back.now order c.requires.nodes
    c.requires.turned h) c.start_order.ensures
