use Rattle.std.proofs.Common.{◌≡◌, [], ◌∷◌, ◌++◌, length, sym, ap, subst, arith}
use Rattle.std.proofs.lemmas.List.{length_push}
use Rattle.wasm_known.specs.Table.{IsRight}
use Rattle.wasm_known.proofs.Right.{table_more}
use Rattle.wasm_known.proofs.table.known_functions.Goals as goal

pub loop-instance-preserved : goal.loop-instance-preserved
loop-instance-preserved c =
    let pushed : c.push.new.self.items ≡ c.loop-instance.table.items ++ c.in_ok-functions.functions ∷ [] =
    c.in_ok-push.ensures.items in (
      omega (
        arith,
        c.loop-instance.invariant.0,
        ap length pushed,
        length_push c.loop-instance.table.items
            c.in_ok-functions.functions,
      ),
      subst (IsRight c.args.modules.now c.args.store.now) (sym pushed)
          (table_more c.args.modules.now c.args.store.now c.loop-instance.instance c.loop-instance.table.items
          c.in_ok-functions.functions c.loop-instance.invariant.0 c.loop-instance.invariant.1
          c.in_ok-functions.ensures),
    )
