use Rattle.std.proofs.Common.{◌≡◌, length}
use Rattle.wasm_known.specs.Table.{IsRight}
use Rattle.wasm_known.proofs.table.known_functions.Given as goal

abbrev pub invariant-loop-instance : goal.invariant-loop-instance
invariant-loop-instance l = (l.instance ≡ length l.table.items) × IsRight l.modules l.store l.table.items
