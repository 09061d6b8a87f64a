use Rattle.std.proofs.Common.{◌≡◌, take}
use Rattle.emit_tables.specs.Tables.{table_of}
use Rattle.emit_tables.proofs.table.table_of.Given as goal

abbrev pub invariant-loop-mark : goal.invariant-loop-mark
invariant-loop-mark l = l.table ≡ table_of (take l.mark-index l.marks)
