use Rattle.std.proofs.Common.{◌≡◌, drop}
use Rattle.wasm_binary.specs.Binary.{skip_all}
use Rattle.wasm_binary.proofs.module_bytes.skip_all_at.Given as goal

abbrev pub invariant-loop-byte : goal.invariant-loop-byte
invariant-loop-byte l = skip_all (drop l.byte-index l.expected) l.rest ≡ skip_all l.expected l.bytes
