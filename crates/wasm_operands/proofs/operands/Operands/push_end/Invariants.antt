use Rattle.std.proofs.Common.{◌++◌, drop}
use Rattle.wasm_operands.proofs.operands.Operands.push_end.Given as goal

abbrev pub ghost-known_as : goal.ghost-known_as
ghost-known_as a = a._first.now.values ++ drop a._place.now a._second.now.values
