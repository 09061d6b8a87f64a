use Rattle.std.proofs.Common.{◌+◌, refl}
use Rattle.law_effect.specs.Bytes.{cleared_bytes}
use Rattle.wasm_engine.proofs.AtOnce.{changed_by}
use Rattle.wasm_engine.proofs.bytes.clear_bytes.Goals as goal

pub returns : goal.returns
returns c =
    changed_by c.args.store.now c.args.instance c.in-Some.place (c.args.to + c.args.count) (c.args.to + c.args.count)
    (cleared_bytes c.args.count c.args.to) c.as_slice.result.now c.args.memories.now.items c.index_mut.result.now
    c.clear_memory.new.memory
    refl c.as_slice.ensures.value c.in-Some.ensures c.index_mut.ensures.value c.clear_memory.ensures
