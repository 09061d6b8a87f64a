use Rattle.std.proofs.Common.{◌-◌, length}
use Rattle.std.specs.Prelude.{slice_set}
use Rattle.wasm_operands.proofs.operands.Operands.set_i32.Given as goal

abbrev pub ghost-known_as : goal.ghost-known_as
ghost-known_as a = slice_set a._first.now.values (length a._first.now.values - 1) a._value.now
