use Rattle.std.specs.Prelude.{slice_set}
use Rattle.wasm_operands.specs.Bits.{last_of}
use Rattle.wasm_operands.proofs.operands.Operands.set_last.Given as goal

abbrev pub ghost-known_as : goal.ghost-known_as
ghost-known_as a = slice_set a._first.now.values a._place.now (last_of a._second.now.values)
