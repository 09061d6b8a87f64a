use Rattle.std.proofs.Common.{◌≡◌, ◌≤◌, ◌-◌, length}
use Rattle.wasm_binary.specs.Binary.{locals_at}
use Rattle.wasm_code.proofs.Loop.{with_front}
use Rattle.wasm_binary.proofs.binary.body.groups_at.Given as goal

abbrev pub invariant-loop : goal.invariant-loop
invariant-loop l = (with_front l.groups (locals_at (l.count - l.counter) l.before l.rest) ≡ locals_at l.count 0 l.bytes)
    × (length l.rest ≤ length l.bytes)
