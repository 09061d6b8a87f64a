use Rattle.std.proofs.Common.{◌≡◌, take}
use Rattle.std.specs.List.{fold}
use Rattle.check_scope.specs.Elaborated.{least}
use Rattle.check_block.specs.Declarations.{again_decl}
use Rattle.check_block.proofs.declarations.again_all.Given as goal

abbrev pub invariant-loop-decl : goal.invariant-loop-decl
invariant-loop-decl l = (l.scope ≡ l.fn.scope)
    × ((l.elaborated, l.seen) ≡ fold (again_decl least l.fn.scope) (l.fn.before, l.first) (take l.decl-index l.decls))
