use Rattle.std.proofs.Common.{◌≡◌, drop}
use Rattle.wasm_binary.specs.Binary.{bodies}
use Rattle.wasm_code.proofs.Loop.{with_front}
use Rattle.wasm_binary.proofs.module_bytes.bodies_at.Given as goal

abbrev pub invariant-loop-type_index : goal.invariant-loop-type_index
invariant-loop-type_index l = with_front l.functions (bodies (drop l.type_index-index l.types) l.rest)
    ≡ bodies l.types l.bytes
