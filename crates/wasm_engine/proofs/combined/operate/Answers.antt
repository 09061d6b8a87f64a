use Rattle.std.proofs.Common.{sym}
use Rattle.wasm_tree.specs.declared.store.Value.TheVariants.{I64}
use Rattle.wasm_engine.proofs.Combining.{made}
use Rattle.wasm_engine.proofs.combined.operate.Goals as goal

pub returns-in-Some : goal.returns-in-Some
returns-in-Some c = (
  _,
  I64 c.in-Some.made,
  made c.args.operation c.args.stack.now.known.values _ c.top_i64-n.result
      c.args.number c.in-Some.made c.top_i64-n.ensures (sym c.in-Some.ensures),
  c.set_i64.ensures,
)
