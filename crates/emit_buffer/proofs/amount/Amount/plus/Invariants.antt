use Rattle.std.proofs.Common.{◌+◌}
use Rattle.emit_buffer.proofs.amount.Amount.plus.Given as goal

abbrev pub ghost-exact_as : goal.ghost-exact_as
ghost-exact_as a = a._first.now.value + a._second.now.value
