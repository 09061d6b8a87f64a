use Rattle.std.proofs.Common.{◌≡◌, ◌+◌, ◌-◌, length}
use Rattle.law_effect.specs.Bytes.{copied_bytes}
use Rattle.wasm_engine.proofs.bytes.copy_each.Given as goal

abbrev pub invariant-loop-done : goal.invariant-loop-done
invariant-loop-done l = (length l.bytes ≡ length l.fn.bytes)
    × (copied_bytes (l.count - l.done) (l.to + l.done) (l.from + l.done) l.bytes
    ≡ copied_bytes l.count l.to l.from l.fn.bytes)
