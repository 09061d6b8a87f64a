use Rattle.layout_storage.specs.Extents.{begin_row}
use Rattle.layout_storage.specs.Making.{with_field}
use Rattle.layout_storage.proofs.Walks.{walked}
use Rattle.layout_storage.proofs.making.record_row.Goals as goal

pub loop-number-preserved : goal.loop-number-preserved
loop-number-preserved c = walked (with_field c.args.making.now) (begin_row 0) c.args.fields.now c.loop-number.number
    c.loop-number.row _ _ c.loop-number.invariant c.get.ensures c.in_ok-row.ensures
