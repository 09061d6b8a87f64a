use Rattle.std.proofs.Common.{◌≡◌, ◌≤◌, ◌-◌, length}
use Rattle.wasm_code.specs.Parts.{many}
use Rattle.wasm_code.proofs.Loop.{with_front}
use Rattle.wasm_binary.proofs.binary.many.Given as goal

abbrev pub invariant-loop : goal.invariant-loop
invariant-loop g l = (with_front l.items (many g.T.Binary.format (l.count - l.counter) l.rest)
    ≡ many g.T.Binary.format l.count l.bytes) × (length l.rest ≤ length l.bytes)
