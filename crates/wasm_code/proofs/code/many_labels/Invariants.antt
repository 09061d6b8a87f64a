use Rattle.std.proofs.Common.{◌≡◌, ◌-◌, length}
use Rattle.wasm_code.specs.Parts.{many}
use Rattle.wasm_code.specs.Number.{unsigned}
use Rattle.wasm_code.proofs.Loop.{with_front}
use Rattle.wasm_code.proofs.code.many_labels.Given as goal

abbrev pub invariant-loop : goal.invariant-loop
invariant-loop l = (with_front l.labels (many unsigned (l.count - l.counter) l.rest) ≡ many unsigned l.count l.bytes)
    × (length l.labels ≡ l.counter)
