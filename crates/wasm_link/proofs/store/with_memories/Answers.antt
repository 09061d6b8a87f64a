use Rattle.std.proofs.Common.{None}
use Rattle.wasm_tree.specs.Linking.{with_memory}
use Rattle.wasm_link.specs.Placed.{link_result}
use Rattle.wasm_link.proofs.Fold.{each_more_at, each_none}
use Rattle.wasm_link.proofs.store.with_memories.Goals as goal

pub loop-memory-preserved : goal.loop-memory-preserved
loop-memory-preserved c =
    each_more_at with_memory c.args.memories.now c.loop-memory.memory-index
    (link_result c.loop-memory.store c.loop-memory.instance)
    (record { limits = record { min = 0; max = None } }) _ _ c.loop-memory-test.true c.in_ok-with_memory.ensures
    c.loop-memory.invariant

pub returns : goal.returns
returns c = each_none with_memory c.args.memories.now c.loop-memory.memory-index
    (link_result c.loop-memory.store c.loop-memory.instance) _ c.loop-memory-test.false c.loop-memory.invariant
