-- Memories while the run goes on.
use Rattle.std.proofs.Common.{◌≡◌, ℕ, zero, suc, ◌+◌, List, [], ◌∷◌, length, map, Some, true, nat_le, slice_get, slice_set, slice_index_or, ap, ◌∙◌, rules}
use Rattle.std.proofs.lemmas.List.{map-set}
use Rattle.wasm_tree.specs.declared.store.Memory.{Memory}
use Rattle.wasm_tree.specs.declared.store.Store.{Store}
use Rattle.wasm_tree.specs.Machine.{Activation, Going, Progress, memory_of, paste_items, stores, or_trap}
use Rattle.wasm_machine.specs.declared.frame.Pages.{Pages}
use Rattle.wasm_machine.specs.Going.{memory_from}

-- where a memory was found, it stands
pub memory_there : (st : Store) (m a : ℕ) (memory : Memory) → memory_of st m ≡ Some (a, memory)
    → slice_get st.memories a ≡ Some memory
memory_there st m a memory found = search rules

same_memory : (old : List Pages) (a : ℕ) (mem first : Pages)
    → slice_get (map memory_from old) a ≡ Some (memory_from mem) → first ≡ slice_index_or old a first
    → memory_from first ≡ memory_from mem
same_memory [] a mem first there is = search rules
same_memory (x ∷ xs) zero mem first there is = ap memory_from is ∙ search rules
same_memory (x ∷ xs) (suc a) mem first there is = same_memory xs a mem first there is

abbrev overwritten : ℕ → List ℕ → Memory → Memory
overwritten place bytes memory = record memory { bytes = paste_items memory.bytes place bytes }

abbrev goes_on : Store → Activation → List Activation → List Memory → Progress
goes_on st now callers memories = (Going (record st { memories = memories }) now callers, [])

-- bytes were put into the memory that was found
pub store_step : (st : Store) (now : Activation) (callers : List Activation) (instance a place : ℕ) (old : List Pages)
    (mem first new : Pages) (bytes : List ℕ)
    → memory_of (record st { memories = map memory_from old }) instance ≡ Some (a, memory_from mem)
    → first ≡ slice_index_or old a first
    → memory_from new ≡ overwritten place bytes (memory_from first)
    → nat_le (place + length bytes) (length mem.bytes.items) ≡ true
    → goes_on st now callers (map memory_from (slice_set old a new))
    ≡ or_trap (memory_of (record st { memories = map memory_from old }) instance)
    (stores (record st { memories = map memory_from old }) now callers place bytes)
store_step st now callers instance a place old mem first new bytes found is pasted_is within =
    let there : slice_get (map memory_from old) a ≡ Some (memory_from mem) =
    memory_there (record st { memories = map memory_from old }) instance a (memory_from mem) found in
    let same : memory_from new ≡ overwritten place bytes (memory_from mem) = pasted_is
    ∙ ap (overwritten place bytes) (same_memory old a mem first there is) in
    let all : map memory_from (slice_set old a new)
    ≡ slice_set (map memory_from old) a (overwritten place bytes (memory_from mem)) =
    map-set memory_from old a new ∙ ap (slice_set (map memory_from old) a) same in
    rw (found, within) (ap (goes_on st now callers) all)
