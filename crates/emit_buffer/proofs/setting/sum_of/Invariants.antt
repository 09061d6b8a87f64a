use Rattle.std.proofs.Common.{◌≡◌, ◌+◌, drop}
use Rattle.layout_storage.specs.Extents.{total}
use Rattle.emit_buffer.proofs.setting.sum_of.Given as goal

abbrev pub invariant-loop-count : goal.invariant-loop-count
invariant-loop-count l = l.sum + total (drop l.count-index l.labels) ≡ total l.labels
