use Rattle.wasm_tree.specs.declared.store.Value.TheVariants.{I32}
use Rattle.wasm_engine.proofs.Combining.{added}
use Rattle.wasm_engine.proofs.combined.add.Goals as goal

pub returns : goal.returns
returns c = (
  _,
  I32 _,
  added c.args.stack.now.known.values _ c.top_i32-n.result c.args.number c.top_i32-n.ensures,
  c.set_i32.ensures,
)
