use Rattle.graph_walk.proofs.Reaching.{reaches_begins, reaches_goes_on, reaches_ends, waiting_within}
use Rattle.graph_walk.proofs.cycle.lead_on.Goals as goal

pub loop-node-init : goal.loop-node-init
loop-node-init c = reaches_begins _ _ _ _ _ _ _ c.requires.same c.requires.closed c.new-todo.ensures c.targets.ensures
    c.in_ok-mark_all.ensures

pub targets-requires-in-Some : goal.targets-requires-in-Some
targets-requires-in-Some c = waiting_within _ _ _ _ _ _ _ c.in-Some.ensures c.loop-node.invariant

pub loop-node-preserved : goal.loop-node-preserved
loop-node-preserved c = reaches_goes_on _ _ _ _ _ _ _ _ _ _ c.in-Some.ensures (cc) c.loop-node.invariant
    c.in_ok-mark_all-2.ensures

pub returns-clause-marked : goal.returns-clause-marked
returns-clause-marked c = reaches_ends _ _ _ _ _ c.in_default.ensures.0 c.loop-node.invariant
