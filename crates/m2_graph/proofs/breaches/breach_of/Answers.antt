use Rattle.std.proofs.Common.{take}
use Rattle.m2_graph.specs.Program.{modules_of}
use Rattle.m2_graph.specs.Refused.{breaches_of}
use Rattle.m2_graph.specs.Reported.{cycle_breaches}
use Rattle.m2_graph.proofs.Breaching.{then_least}
use Rattle.m2_graph.proofs.breaches.breach_of.Goals as goal

pub returns : goal.returns
returns c = then_least (breaches_of (modules_of c.args.program.now) (take c.args.number (modules_of c.args.program.now))
    c.args.given c.args.tree.now) (cycle_breaches c.args.cycle c.args.number) _ _ c.file_breach-breach.ensures
    c.with_cycle.ensures
