use Rattle.std.proofs.Common.{◌≡◌, take}
use Rattle.std.specs.List.{fold}
use Rattle.layout_storage.specs.Rows.{with_variable}
use Rattle.layout_storage.proofs.frame.with_variables.Given as goal

abbrev pub invariant-loop-variable : goal.invariant-loop-variable
invariant-loop-variable l = l.row ≡ fold (with_variable l.types) l.fn.before (take l.variable-index l.variables)
