use Rattle.std.proofs.Common.{suc}
use Rattle.emit_buffer.proofs.amount.Amount.next.Given as goal

abbrev pub ghost-exact_as : goal.ghost-exact_as
ghost-exact_as a = suc a._first.now.value
