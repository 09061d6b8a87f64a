use Rattle.std.proofs.Common.{◌≡◌, take}
use Rattle.check_body.specs.Own.{fields_copy}
use Rattle.check_body.proofs.own.fields_copy.Given as goal

abbrev pub invariant-loop-place : goal.invariant-loop-place
invariant-loop-place l = l.copy ≡ fields_copy (take l.place l.fields)
