use Rattle.std.proofs.Common.{◌≡◌, take}
use Rattle.std.specs.List.{fold}
use Rattle.layout_storage.specs.Counted.{with_which}
use Rattle.layout_storage.proofs.body.routines_count.Given as goal

abbrev pub invariant-loop-which : goal.invariant-loop-which
invariant-loop-which l = l.all ≡ fold (with_which l.module_body) 0 (take l.which-index l.module_body.order)
