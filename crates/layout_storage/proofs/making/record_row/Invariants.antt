use Rattle.std.proofs.Common.{◌≡◌, take}
use Rattle.std.specs.List.{fold}
use Rattle.layout_storage.specs.Extents.{begin_row}
use Rattle.layout_storage.specs.Making.{with_field}
use Rattle.layout_storage.proofs.making.record_row.Given as goal

abbrev pub invariant-loop-number : goal.invariant-loop-number
invariant-loop-number l = l.row ≡ fold (with_field l.making) (begin_row 0) (take l.number l.fields)
