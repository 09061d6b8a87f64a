use Rattle.emit_buffer.proofs.amount.Amount.again.Given as goal

abbrev pub ghost-exact_as : goal.ghost-exact_as
ghost-exact_as a = a._first.now.value
