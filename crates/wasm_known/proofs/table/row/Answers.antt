use Rattle.std.proofs.Common.{◌≡◌, [], ◌∷◌, ◌++◌, length, sym, ap, subst, arith}
use Rattle.std.proofs.lemmas.List.{length_push}
use Rattle.wasm_known.specs.Table.{RowIsRight}
use Rattle.wasm_known.proofs.Right.{row_more}
use Rattle.wasm_known.proofs.table.row.Goals as goal

pub loop-index-preserved : goal.loop-index-preserved
loop-index-preserved c =
    let pushed : c.push.new.self.items ≡ c.loop-index.row.items ++ c.kind_of.result ∷ [] = c.in_ok-push.ensures.items in (
      omega (arith, c.loop-index.invariant.0, ap length pushed, length_push c.loop-index.row.items c.kind_of.result),
      subst (RowIsRight c.args.modules.now c.args.store.now c.args.instance) (sym pushed)
          (row_more c.args.modules.now c.args.store.now c.args.instance c.loop-index.index c.loop-index.row.items
          c.kind_of.result c.loop-index.invariant.0 c.loop-index.invariant.1 c.kind_of.ensures),
    )
