use Rattle.std.proofs.Common.{◌≡◌, take}
use Rattle.check_body.specs.Own.{own_names}
use Rattle.check_body.proofs.own.own_names.Given as goal

abbrev pub invariant-loop-place : goal.invariant-loop-place
invariant-loop-place l = l.names ≡ own_names (take l.place l.exported)
