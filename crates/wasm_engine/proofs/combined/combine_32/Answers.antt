use Rattle.wasm_engine.proofs.Combining.{below_32}
use Rattle.wasm_engine.proofs.combined.combine_32.Goals as goal

pub add-requires : goal.add-requires
add-requires c = below_32 c.args.numeric c.args.stack.now.known.values c.args.number c.requires c.in-I32Add.is
