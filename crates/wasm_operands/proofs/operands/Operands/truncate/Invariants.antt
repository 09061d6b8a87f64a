use Rattle.std.proofs.Common.{take}
use Rattle.wasm_operands.proofs.operands.Operands.truncate.Given as goal

abbrev pub ghost-known_as : goal.ghost-known_as
ghost-known_as a = take a._place.now a._first.now.values
