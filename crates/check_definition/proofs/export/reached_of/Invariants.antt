use Rattle.std.proofs.Common.{◌≡◌, [], take}
use Rattle.std.specs.List.{fold}
use Rattle.check_definition.specs.Export.{with_types}
use Rattle.check_definition.proofs.export.reached_of.Given as goal

abbrev pub invariant-loop-place : goal.invariant-loop-place
invariant-loop-place l = l.reached ≡ fold with_types [] (take l.place l.others)
