use Rattle.std.proofs.Common.{ap, ◌∙◌}
use Rattle.wasm_tree.specs.Numbers.{truth}
use Rattle.wasm_tree.specs.declared.store.Value.TheVariants.{I32}
use Rattle.wasm_engine.proofs.Combining.{compared}
use Rattle.wasm_engine.proofs.combined.compare.Goals as goal

pub returns : goal.returns
returns c = (
  _,
  I32 _,
  compared c.args.relation c.args.stack.now.known.values _ c.top_i64-n.result c.args.number
      c.truth.result c.top_i64-n.ensures (c.truth.ensures ∙ ap truth c.compares_64.ensures),
  c.set_i32.ensures,
)
