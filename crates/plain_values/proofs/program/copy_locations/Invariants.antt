use Rattle.std.proofs.Common.{◌≡◌, take}
use Rattle.plain_values.proofs.program.copy_locations.Given as goal

abbrev pub invariant-loop-l : goal.invariant-loop-l
invariant-loop-l l = l.all ≡ take l.l-index l.locations
