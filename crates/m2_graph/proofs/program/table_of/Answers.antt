use Rattle.std.proofs.Common.{arith}
use Rattle.m2_graph.specs.Parts.{number_at}
use Rattle.m2_graph.proofs.Tables.{table_more}
use Rattle.m2_graph.proofs.program.table_of.Goals as goal

pub loop-number-preserved : goal.loop-number-preserved
loop-number-preserved c = table_more c.args.part c.args.modules.now c.loop-number.number c.index-modules-number.result
    (number_at c.loop-number.table) _ (omega arith) c.index-modules-number.is c.loop-number.invariant
    c.in_ok-add_module.ensures
