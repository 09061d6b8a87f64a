use Rattle.std.proofs.Common.{◌≡◌, take}
use Rattle.std.specs.List.{fold}
use Rattle.check_definition.specs.Marking.{marked_def}
use Rattle.check_definition.proofs.marking.mark_defs.Given as goal

abbrev pub invariant-loop-def : goal.invariant-loop-def
invariant-loop-def l = l.scope ≡ fold marked_def l.fn.scope (take l.def-index l.defs)
