use Rattle.std.proofs.Common.{◌≡◌, ◌++◌, ◌+◌, ◌-◌, ◌≤◌, vec_len}
use Rattle.std.specs.Prelude.{vec_capacity}
use Rattle.wasm_code.specs.Number.{groups}
use Rattle.wasm_code.proofs.writer.push_groups.Given as goal

abbrev pub invariant-loop : goal.invariant-loop
invariant-loop l =
    (l.bytes.items ++ groups (l.most - l.counter) l.rest ≡ l.fn.bytes.items ++ groups l.most l.number)
    × (vec_len l.bytes + (l.most - l.counter) ≤ vec_len l.fn.bytes + l.most)
    × (vec_capacity l.bytes ≡ vec_capacity l.fn.bytes)
