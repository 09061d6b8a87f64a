use Rattle.std.proofs.Common.{◌≡◌, take, map}
use Rattle.layout_storage.specs.Layouts.{imported_row}
use Rattle.layout_storage.proofs.layout.imported_rows.Given as goal

abbrev pub invariant-loop-import : goal.invariant-loop-import
invariant-loop-import l = l.rows ≡ map (imported_row l.types) (take l.import-index l.imports)
