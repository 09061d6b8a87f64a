use Rattle.std.proofs.Common.{◌≡◌}
use Rattle.emit_stmt.specs.Written.{opened_times}
use Rattle.emit_stmt.proofs.cases.blocks_begun.Given as goal

abbrev pub invariant-loop-number : goal.invariant-loop-number
invariant-loop-number l = l.draft ≡ opened_times l._number l.initial.draft
