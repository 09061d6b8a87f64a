use Rattle.std.proofs.Common.{◌≡◌, drop}
use Rattle.wasm_tree.specs.Linking.{each, with_table}
use Rattle.wasm_link.specs.Placed.{link_result}
use Rattle.wasm_link.proofs.store.with_tables.Given as goal

abbrev pub invariant-loop-table : goal.invariant-loop-table
invariant-loop-table l = each with_table (drop l.table-index l.tables) (link_result l.store l.instance)
    ≡ each with_table l.tables (link_result l.fn.store l.fn.instance)
