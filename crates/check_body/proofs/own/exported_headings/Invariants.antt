use Rattle.std.proofs.Common.{◌≡◌, take}
use Rattle.check_body.specs.Own.{exported_headings}
use Rattle.check_body.proofs.own.exported_headings.Given as goal

abbrev pub invariant-loop-place : goal.invariant-loop-place
invariant-loop-place l = l.types ≡ exported_headings (take l.place l.exported)
