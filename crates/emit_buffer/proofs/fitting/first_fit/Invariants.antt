use Rattle.std.proofs.Common.{◌≡◌}
use Rattle.emit_buffer.specs.Fitting.{first_fit}
use Rattle.emit_buffer.proofs.fitting.first_fit.Given as goal

abbrev pub invariant-loop-number : goal.invariant-loop-number
invariant-loop-number l = l.all ≡ first_fit l.types l.home l.number
