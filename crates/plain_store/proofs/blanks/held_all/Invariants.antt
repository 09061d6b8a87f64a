use Rattle.std.proofs.Common.{◌≡◌, map, take}
use Rattle.plain_store.specs.Blanks.{held_in}
use Rattle.plain_store.proofs.blanks.held_all.Given as goal

abbrev pub invariant-loop-blank : goal.invariant-loop-blank
invariant-loop-blank l = l.all ≡ map held_in (take l.blank-index l.blanks)
