use Rattle.std.proofs.Common.{◌≡◌, take}
use Rattle.wasm_binary.specs.Binary.{types_of}
use Rattle.wasm_binary.proofs.module_bytes.types_of.Given as goal

abbrev pub invariant-loop-function : goal.invariant-loop-function
invariant-loop-function l = l.uses.items ≡ types_of (take l.function-index l.functions)
