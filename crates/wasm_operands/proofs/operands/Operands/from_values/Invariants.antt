use Rattle.std.proofs.Common.{◌≡◌, take}
use Rattle.wasm_operands.proofs.operands.Operands.from_values.Given as goal

abbrev pub invariant-loop-value : goal.invariant-loop-value
invariant-loop-value l = l.operands.known.values ≡ take l.value-index l.values
