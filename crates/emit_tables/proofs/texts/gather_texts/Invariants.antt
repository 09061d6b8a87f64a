use Rattle.std.proofs.Common.{◌≡◌, take}
use Rattle.std.specs.List.{fold}
use Rattle.emit_tables.specs.Offsets.{nothing_yet, with_which}
use Rattle.emit_tables.proofs.texts.gather_texts.Given as goal

abbrev pub invariant-loop-which : goal.invariant-loop-which
invariant-loop-which l = l.gathering ≡ fold (with_which l.module_body) (nothing_yet l.module_body)
    (take l.which-index l.module_body.order)
