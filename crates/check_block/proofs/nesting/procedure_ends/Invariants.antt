use Rattle.std.proofs.Common.{◌≡◌, take}
use Rattle.check_block.specs.Nesting.{procedure_ends}
use Rattle.check_block.proofs.nesting.procedure_ends.Given as goal

abbrev pub invariant-loop-decl : goal.invariant-loop-decl
invariant-loop-decl l = l.ends ≡ procedure_ends (take l.decl-index l.decls)
