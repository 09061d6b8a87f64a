use Rattle.std.proofs.Common.{arith}
use Rattle.m2_graph.specs.Program.{modules_of}
use Rattle.m2_graph.proofs.Reporting.{refused_next, breach_within}
use Rattle.m2_graph.proofs.reported.refused_from.Goals as goal

pub breach_of-breach-requires-clause-within : goal.breach_of-breach-requires-clause-within
breach_of-breach-requires-clause-within c =
    breach_within (modules_of c.args.program.now) c.args.sources.now c.loop-number.number c.requires.same (omega arith)

pub loop-number-preserved : goal.loop-number-preserved
loop-number-preserved c = refused_next (modules_of c.args.program.now) c.args.cycle c.args.sources.now
    c.loop-number.number c.index-sources-number.result c.breach_of-breach.result c.loop-number.refusals.items
    c.add_refusal.new.refusals.items c.requires.same (omega arith) c.index-sources-number.is c.loop-number.invariant
    c.breach_of-breach.ensures c.in_ok-add_refusal.ensures
