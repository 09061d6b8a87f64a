use Rattle.std.proofs.Common.{◌≡◌, take, []}
use Rattle.std.specs.List.{fold}
use Rattle.layout_storage.specs.Making.{with_module}
use Rattle.layout_storage.proofs.making.others_of.Given as goal

abbrev pub invariant-loop-place : goal.invariant-loop-place
invariant-loop-place l = l.modules ≡ fold (with_module l.types) [] (take l.place l.types.others)
