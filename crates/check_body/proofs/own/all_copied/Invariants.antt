use Rattle.std.proofs.Common.{◌≡◌, map, take}
use Rattle.check_body.specs.Own.{made_copy}
use Rattle.check_body.proofs.own.all_copied.Given as goal

abbrev pub invariant-loop-made : goal.invariant-loop-made
invariant-loop-made l = l.copies ≡ map made_copy (take l.made-index l.list)
