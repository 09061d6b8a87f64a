use Rattle.std.proofs.Common.{[], ◌∷◌, ◌++◌}
use Rattle.wasm_operands.proofs.operands.Operands.push_i32.Given as goal

abbrev pub ghost-known_as : goal.ghost-known_as
ghost-known_as a = a._first.now.values ++ a._value.now ∷ []
