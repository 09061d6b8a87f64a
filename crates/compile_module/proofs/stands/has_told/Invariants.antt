use Rattle.std.proofs.Common.{◌≡◌, drop}
use Rattle.std.specs.List.{list_any}
use Rattle.compile_module.specs.Stands.{is_told}
use Rattle.compile_module.proofs.stands.has_told.Given as goal

abbrev pub invariant-loop-refusal : goal.invariant-loop-refusal
invariant-loop-refusal l = list_any is_told (drop l.refusal-index l.refusals) ≡ list_any is_told l.refusals
