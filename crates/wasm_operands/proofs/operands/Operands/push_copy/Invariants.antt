use Rattle.std.proofs.Common.{[], ◌∷◌, ◌++◌}
use Rattle.wasm_operands.specs.Bits.{value_at}
use Rattle.wasm_operands.proofs.operands.Operands.push_copy.Given as goal

abbrev pub ghost-known_as : goal.ghost-known_as
ghost-known_as a = a._first.now.values ++ value_at a._second.now.values a._place.now ∷ []
