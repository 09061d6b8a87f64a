use Rattle.std.proofs.Common.{◌≡◌, drop}
use Rattle.wasm_tree.specs.Linking.{each, with_memory}
use Rattle.wasm_link.specs.Placed.{link_result}
use Rattle.wasm_link.proofs.store.with_memories.Given as goal

abbrev pub invariant-loop-memory : goal.invariant-loop-memory
invariant-loop-memory l = each with_memory (drop l.memory-index l.memories) (link_result l.store l.instance)
    ≡ each with_memory l.memories (link_result l.fn.store l.fn.instance)
