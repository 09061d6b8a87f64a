use Rattle.std.proofs.Common.{◌≡◌, take, []}
use Rattle.std.specs.List.{fold}
use Rattle.layout_storage.specs.Making.{with_type}
use Rattle.layout_storage.proofs.making.all_made.Given as goal

abbrev pub invariant-loop-made : goal.invariant-loop-made
invariant-loop-made l = l.making ≡ fold (with_type l.types) (record { modules = l.fn.modules; home = l.home; own = [] })
    (take l.made-index l.all)
