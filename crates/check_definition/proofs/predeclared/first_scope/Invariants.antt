use Rattle.std.proofs.Common.{◌≡◌, take}
use Rattle.check_definition.specs.Predeclared.{others_of}
use Rattle.check_definition.proofs.predeclared.first_scope.Given as goal

abbrev pub invariant-loop-table : goal.invariant-loop-table
invariant-loop-table l = l.others ≡ others_of (take l.table-index l.fn.tables)
