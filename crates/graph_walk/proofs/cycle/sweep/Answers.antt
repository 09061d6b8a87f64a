use Rattle.std.proofs.Common.{arith}
use Rattle.graph_walk.proofs.Sweeping.{sweeps_past}
use Rattle.graph_walk.proofs.cycle.sweep.Goals as goal

pub returns-then-node-links : goal.returns-then-node-links
returns-then-node-links c = sweeps_past c.args.links.now c.args.node c.args.led.now c.args.cyclic.now (omega arith)
    c.requires.same_led c.requires.same_cyclic
