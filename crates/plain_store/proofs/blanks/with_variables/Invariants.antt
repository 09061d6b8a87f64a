use Rattle.std.proofs.Common.{◌≡◌, ◌++◌, map, take}
use Rattle.plain_store.specs.Blanks.{blank_in}
use Rattle.plain_store.proofs.blanks.with_variables.Given as goal

abbrev pub invariant-loop-t : goal.invariant-loop-t
invariant-loop-t l = l.all ≡ l.fn.before ++ map (blank_in l.known) (take l.t-index l.variables)
