use Rattle.std.proofs.Common.{None}
use Rattle.wasm_tree.specs.Linking.{with_table}
use Rattle.wasm_link.specs.Placed.{link_result}
use Rattle.wasm_link.proofs.Fold.{each_more_at, each_none}
use Rattle.wasm_link.proofs.store.with_tables.Goals as goal

pub loop-table-preserved : goal.loop-table-preserved
loop-table-preserved c =
    each_more_at with_table c.args.tables.now c.loop-table.table-index
    (link_result c.loop-table.store c.loop-table.instance)
    (record { limits = record { min = 0; max = None } }) _ _ c.loop-table-test.true c.in_ok-with_table.ensures
    c.loop-table.invariant

pub returns : goal.returns
returns c = each_none with_table c.args.tables.now c.loop-table.table-index
    (link_result c.loop-table.store c.loop-table.instance) _ c.loop-table-test.false c.loop-table.invariant
