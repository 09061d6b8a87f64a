use Rattle.std.proofs.Common.{◌++◌, replicate}
use Rattle.wasm_operands.proofs.operands.Operands.push_zeros.Given as goal

abbrev pub ghost-known_as : goal.ghost-known_as
ghost-known_as a = a._first.now.values ++ replicate a._count.now a._value.now
