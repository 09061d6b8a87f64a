use Rattle.std.proofs.Common.{◌≡◌, ◌++◌}
use Rattle.std.specs.Prelude.{drop}
use Rattle.def_meaning.specs.Store.{Location}
use Rattle.plain_store.specs.Contents.{contents}
use Rattle.plain_store.proofs.held.part_at.Given as goal

abbrev pub invariant-loop-number : goal.invariant-loop-number
invariant-loop-number l = (r : Location) → contents l.here (drop l.number-index l.at ++ r) ≡ contents l.held (l.at ++ r)
