use Rattle.std.proofs.Common.{◌≡◌, [], take}
use Rattle.std.specs.List.{fold}
use Rattle.check_scope.specs.Elaborated.{least}
use Rattle.check_block.specs.Inner.{with_section}
use Rattle.check_block.proofs.inner.enter_in.Given as goal

abbrev pub invariant-loop-section : goal.invariant-loop-section
invariant-loop-section l = (l.names, l.types)
    ≡ fold (with_section least l.scope) ([], []) (take l.section-index l.heading.formals)
