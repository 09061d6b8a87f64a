use Rattle.std.proofs.Common.{◌≡◌, ◌++◌, ◌+◌, ◌-◌, ◌≤◌, vec_len}
use Rattle.std.specs.Prelude.{vec_capacity}
use Rattle.wasm_code.specs.Number.{signed_groups}
use Rattle.wasm_code.proofs.writer.push_signed.Given as goal

abbrev pub invariant-loop : goal.invariant-loop
invariant-loop l =
    (l.bytes.items ++ signed_groups (l.most - l.counter) l.top l.rest ≡ l.fn.bytes.items
    ++ signed_groups l.most l.top l.bits)
    × (vec_len l.bytes + (l.most - l.counter) ≤ vec_capacity l.bytes)
    × (l.rest ≤ l.top)
