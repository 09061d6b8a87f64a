use Rattle.std.proofs.Common.{arith}
use Rattle.m2_graph.specs.Jobs.{place_of}
use Rattle.m2_graph.proofs.Importing.{filtered_more_at}
use Rattle.m2_graph.proofs.jobs.numbers_of.Goals as goal

pub loop-node-preserved : goal.loop-node-preserved
loop-node-preserved c = filtered_more_at (place_of c.args.places.now) c.args.nodes.now c.loop-node.node-index 0
    c.loop-node.numbers _ (omega arith) c.loop-node.invariant c.in_ok-add_number.ensures
