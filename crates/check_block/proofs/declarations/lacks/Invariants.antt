use Rattle.std.proofs.Common.{◌≡◌, take}
use Rattle.check_block.specs.Declarations.{lacks}
use Rattle.check_block.proofs.declarations.lacks.Given as goal

abbrev pub invariant-loop-place : goal.invariant-loop-place
invariant-loop-place l = l.found ≡ lacks (take l.place l.own)
