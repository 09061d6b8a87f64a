use Rattle.std.proofs.Common.{◌≡◌, take}
use Rattle.std.specs.List.{fold}
use Rattle.check_block.specs.Nesting.{with_ends_within}
use Rattle.check_block.proofs.nesting.+nesting.Given as goal

abbrev pub invariant-push_all-loop-decl : goal.invariant-push_all-loop-decl
invariant-push_all-loop-decl l = l.ends ≡ fold with_ends_within l.fn.ends (take l.decl-index l.decls)
