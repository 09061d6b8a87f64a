use Rattle.std.proofs.Common.{◌≡◌, take}
use Rattle.check_definition.specs.Export.{exports}
use Rattle.check_definition.proofs.export.exports.Given as goal

abbrev pub invariant-loop-place : goal.invariant-loop-place
invariant-loop-place l = l.exported ≡ exports (take l.place l.own)
