use Rattle.std.proofs.Common.{◌≡◌, length}
use Rattle.wasm_known.specs.Table.{RowIsRight}
use Rattle.wasm_known.proofs.table.row.Given as goal

abbrev pub invariant-loop-index : goal.invariant-loop-index
invariant-loop-index l = (l.index ≡ length l.row.items) × RowIsRight l.modules l.store l.instance l.row.items
