use Rattle.std.proofs.Common.{◌≡◌, take}
use Rattle.m2_graph.specs.Graph.{bodies_of}
use Rattle.m2_graph.specs.Program.{modules_of}
use Rattle.m2_graph.proofs.given.bodies_of.Given as goal

abbrev pub invariant-loop-node : goal.invariant-loop-node
invariant-loop-node l = l.bodies ≡ bodies_of (modules_of l.program) (take l.node-index l.nodes)
