use Rattle.std.proofs.Common.{map}
use Rattle.m2_graph.specs.Program.{modules_of}
use Rattle.m2_graph.proofs.Bodies.{SoFar}
use Rattle.m2_graph.proofs.order.jobs_of.Given as goal

abbrev pub invariant-loop-node : goal.invariant-loop-node
invariant-loop-node l = SoFar (modules_of l.program) l.order l.node-index (map (λ job. job.items) l.jobs.items)
    l.flags.items
