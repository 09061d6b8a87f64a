use Rattle.std.proofs.Common.{◌≡◌, ◌+◌, List, length, map, true, nat_le, ap, sym, ◌∙◌, rules}
use Rattle.wasm_tree.specs.Machine.{or_trap, memory_of, stores}
use Rattle.wasm_machine.specs.Going.{activation, store_of, callers_of, memory_from}
use Rattle.wasm_machine.specs.declared.frame.Pages.{Pages}
use Rattle.wasm_machine.proofs.Placing.{store_step}
use Rattle.wasm_machine.proofs.memory.store_bytes.Goals as goal

pub returns : goal.returns
returns c =
    let m = c.args.machine.now in
    let st = record m.store { globals = m.globals.known.values } in
    let now = record (activation m.now) { stack = c.pop_i32-place.new.self.known.values } in
    let within : nat_le (c.pop_i32-place.result + length c.args.bytes.now)
    (length c.memory_of-address.result.1.now.bytes.items) ≡ true = search rules in
    let seen = ap (λ (items : List Pages). memory_of (record m.store { memories = map memory_from items })
    m.now.instance) (sym c.deref.ensures.value) ∙ c.memory_of-address.ensures in
    let step = store_step st now (callers_of m) m.now.instance c.memory_of-address.result.0 c.pop_i32-place.result
    m.memories.items c.memory_of-address.result.1.now c.index_mut.result.now c.paste.new.memory c.args.bytes.now
    seen c.index_mut.ensures.value c.paste.ensures within in
    step ∙ ap (λ found. or_trap found (λ p. or_trap (memory_of (store_of m) m.now.instance)
    (stores (store_of m) (record (activation m.now) { stack = p.0 }) (callers_of m) p.1 c.args.bytes.now)))
    (sym c.pop_i32-place.ensures)
