use Rattle.std.proofs.Common.{◌≡◌, ◌+◌, ◌-◌, length}
use Rattle.law_effect.specs.Bytes.{cleared_bytes}
use Rattle.wasm_engine.proofs.bytes.clear.Given as goal

abbrev pub invariant-loop-place : goal.invariant-loop-place
invariant-loop-place l = (length l.bytes ≡ length l.fn.bytes)
    × (cleared_bytes ((l.to + l.count) - l.place) l.place l.bytes ≡ cleared_bytes l.count l.to l.fn.bytes)
