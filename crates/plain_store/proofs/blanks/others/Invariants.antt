use Rattle.std.proofs.Common.{◌≡◌, take, []}
use Rattle.std.specs.List.{fold}
use Rattle.plain_store.specs.Blanks.{with_module}
use Rattle.plain_store.proofs.blanks.others.Given as goal

abbrev pub invariant-loop-place : goal.invariant-loop-place
invariant-loop-place l = l.modules ≡ fold (with_module l.types) [] (take l.place l.types.others)
