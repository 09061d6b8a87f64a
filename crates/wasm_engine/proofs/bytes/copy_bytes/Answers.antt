use Rattle.std.proofs.Common.{◌+◌}
use Rattle.std.specs.Prelude.{max}
use Rattle.law_effect.specs.Bytes.{copied_bytes}
use Rattle.wasm_engine.proofs.AtOnce.{changed_by}
use Rattle.wasm_engine.proofs.bytes.copy_bytes.Goals as goal

pub returns : goal.returns
returns c =
    changed_by c.args.store.now c.args.instance c.in-Some.place c.reach_of_both-reach.result
    (max c.args.to c.args.from + c.args.count) (copied_bytes c.args.count c.args.to c.args.from)
    c.as_slice.result.now c.args.memories.now.items c.index_mut.result.now c.copy_in_memory.new.memory
    c.reach_of_both-reach.ensures c.as_slice.ensures.value c.in-Some.ensures c.index_mut.ensures.value
    c.copy_in_memory.ensures
