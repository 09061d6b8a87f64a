use Rattle.std.proofs.Common.{arith}
use Rattle.m2_graph.specs.Program.{modules_of}
use Rattle.m2_graph.proofs.LeadingBack.{found_in, missed_in, never_in}
use Rattle.m2_graph.proofs.back.back_in.Goals as goal

pub returns-in-Some : goal.returns-in-Some
returns-in-Some c = found_in (modules_of c.args.program.now) c.args.node c.args.tree.now c.as_slice-imports.result.now
    c.loop-import.import-index c.import-item.result c.back_in_import.result c.in-Some.pos c.as_slice-imports.ensures
    (omega arith) c.import-item.is c.loop-import.invariant c.back_in_import.ensures c.in-Some.is

pub loop-import-preserved : goal.loop-import-preserved
loop-import-preserved c = missed_in (modules_of c.args.program.now) c.args.node c.as_slice-imports.result.now
    c.loop-import.import-index c.import-item.result c.back_in_import.result (omega arith) c.import-item.is
    c.loop-import.invariant c.back_in_import.ensures c.in-None.is

pub returns : goal.returns
returns c = never_in (modules_of c.args.program.now) c.args.node c.args.tree.now c.as_slice-imports.result.now
    c.loop-import.import-index c.as_slice-imports.ensures (omega arith) c.loop-import.invariant
