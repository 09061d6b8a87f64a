use Rattle.std.proofs.Common.{◌≡◌, [], take}
use Rattle.std.specs.List.{fold}
use Rattle.plain_store.specs.Blanks.{with_made, keep_blanks}
use Rattle.plain_store.proofs.blanks.all_made.Given as goal

abbrev pub invariant-loop-made : goal.invariant-loop-made
invariant-loop-made l = l.own ≡ keep_blanks l.home
    (fold (with_made l.types l.before l.home) [] (take l.made-index l.all))
