use Rattle.std.proofs.Common.{◌≡◌, take}
use Rattle.std.specs.List.{fold}
use Rattle.check_definition.specs.Predeclared.{with_reached}
use Rattle.check_definition.proofs.predeclared.with_table.Given as goal

abbrev pub invariant-loop-types : goal.invariant-loop-types
invariant-loop-types l = l.others ≡ fold with_reached l.fn.others (take l.types-index l.list)
