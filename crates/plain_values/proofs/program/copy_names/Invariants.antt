use Rattle.std.proofs.Common.{◌≡◌, take}
use Rattle.plain_values.proofs.program.copy_names.Given as goal

abbrev pub invariant-loop-name : goal.invariant-loop-name
invariant-loop-name l = l.all ≡ take l.name-index l.names
