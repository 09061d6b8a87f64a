use Rattle.std.proofs.Common.{take}
use Rattle.std.specs.List.{flat_map}
use Rattle.show_code.specs.Pages.{Puts}
use Rattle.show_code.specs.Modules.{table_text}
use Rattle.show_code.proofs.module.put_tables.Given as goal

abbrev pub invariant-loop-table : goal.invariant-loop-table
invariant-loop-table l = Puts l.fn.page l.page (flat_map table_text (take l.table-index l.tables))
