use Rattle.std.proofs.Common.{◌≡◌, take, true}
use Rattle.std.specs.List.{fold}
use Rattle.emit_buffer.specs.Fitting.{module_fits}
use Rattle.emit_buffer.proofs.fitting.others_fit.Given as goal

abbrev pub invariant-loop-place : goal.invariant-loop-place
invariant-loop-place l = l.all ≡ fold (module_fits l.types) true (take l.place l.types.others)
