use Rattle.std.proofs.Common.{◌≡◌, take}
use Rattle.std.specs.List.{fold}
use Rattle.check_block.specs.Inner.{with_formal}
use Rattle.check_block.proofs.inner.with_section.Given as goal

abbrev pub invariant-loop-name : goal.invariant-loop-name
invariant-loop-name l = (l.names, l.types)
    ≡ fold (with_formal l.scope.level l.formal) (l.fn.names, l.fn.types) (take l.name-index l.section.names)
