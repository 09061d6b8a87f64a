use Rattle.std.proofs.Common.{◌≡◌, ◌++◌, map, take}
use Rattle.plain_store.specs.Blanks.{formal_blank}
use Rattle.plain_store.proofs.blanks.with_formals.Given as goal

abbrev pub invariant-loop-formal : goal.invariant-loop-formal
invariant-loop-formal l = l.all ≡ l.fn.before ++ map (formal_blank l.known) (take l.formal-index l.formals)
