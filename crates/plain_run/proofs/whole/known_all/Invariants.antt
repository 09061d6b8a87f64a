use Rattle.std.proofs.Common.{◌≡◌, map, take}
use Rattle.plain_store.specs.Blanks.{known_blanks}
use Rattle.plain_run.proofs.whole.known_all.Given as goal

abbrev pub invariant-loop-m : goal.invariant-loop-m
invariant-loop-m l = l.all ≡ map (λ m. known_blanks m.types) (take l.m-index l.modules)
