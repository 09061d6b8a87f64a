use Rattle.std.proofs.Common.{◌≡◌, take}
use Rattle.check_block.specs.Naming.{marked_decls}
use Rattle.check_block.proofs.naming.mark_decls.Given as goal

abbrev pub invariant-loop-decl : goal.invariant-loop-decl
invariant-loop-decl l = (l.scope, l.seen) ≡ marked_decls l.fn.scope (take l.decl-index l.decls)
