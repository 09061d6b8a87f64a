use Rattle.std.proofs.Common.{arith}
use Rattle.std.specs.Prelude.{slice_get}
use Rattle.m2_graph.specs.Graph.{body_of}
use Rattle.m2_graph.specs.Program.{modules_of}
use Rattle.m2_graph.proofs.Importing.{filtered_more_at}
use Rattle.m2_graph.proofs.given.bodies_of.Goals as goal

pub loop-node-preserved : goal.loop-node-preserved
loop-node-preserved c = filtered_more_at
    (λ node. body_of (modules_of c.args.program.now) node (slice_get (modules_of c.args.program.now) node))
    c.args.nodes.now c.loop-node.node-index 0 c.loop-node.bodies _ (omega arith) c.loop-node.invariant
    c.in_ok-add_body.ensures
