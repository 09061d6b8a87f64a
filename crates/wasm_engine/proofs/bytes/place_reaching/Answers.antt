use Rattle.std.proofs.Common.{arith, sym}
use Rattle.wasm_engine.proofs.AtOnce.{reaching}
use Rattle.wasm_engine.proofs.bytes.place_reaching.Goals as goal

pub returns : goal.returns
returns c =
    reaching c.args.store.now c.args.instance c.args.reach c.args.memories.now c.in_ok-place.place
    c.in_ok-memory.memory.now c.as_slice.result.now c.count_bytes-size.result
    (sym c.in_ok-place.ensures) c.in_ok-memory.ensures c.as_slice.ensures.value c.count_bytes-size.ensures.count
    c.count_bytes-size.ensures.small (omega (arith, c.if-size-ge-LARGEST.false))
    (omega (arith, c.if-size-reach.false))
