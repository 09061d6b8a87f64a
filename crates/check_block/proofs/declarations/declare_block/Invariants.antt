use Rattle.std.proofs.Common.{◌≡◌, take}
use Rattle.std.specs.List.{fold}
use Rattle.check_scope.specs.Elaborated.{least}
use Rattle.check_block.specs.Declarations.{with_decl}
use Rattle.check_block.proofs.declarations.declare_block.Given as goal

abbrev pub invariant-loop-decl : goal.invariant-loop-decl
invariant-loop-decl l = (l.scope, l.elaborated, l.next)
    ≡ fold (with_decl least l.ends) (l.initial.scope, l.initial.elaborated, l.initial.next) (take l.decl-index l.decls)
