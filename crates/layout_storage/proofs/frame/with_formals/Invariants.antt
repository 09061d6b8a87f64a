use Rattle.std.proofs.Common.{◌≡◌, take}
use Rattle.std.specs.List.{fold}
use Rattle.layout_storage.specs.Rows.{with_formal}
use Rattle.layout_storage.proofs.frame.with_formals.Given as goal

abbrev pub invariant-loop-formal : goal.invariant-loop-formal
invariant-loop-formal l = l.row ≡ fold (with_formal l.types) l.fn.before (take l.formal-index l.formals)
