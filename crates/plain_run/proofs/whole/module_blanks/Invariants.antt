use Rattle.std.proofs.Common.{◌≡◌, map, take}
use Rattle.plain_values.specs.Surroundings.{modules_in}
use Rattle.plain_store.specs.Blanks.{variables_of}
use Rattle.plain_run.proofs.whole.module_blanks.Given as goal

abbrev pub invariant-loop-home : goal.invariant-loop-home
invariant-loop-home l = l.all ≡ map variables_of (modules_in (take l.home-index l.homes))
