use Rattle.std.proofs.Common.{[], ◌∷◌, ◌++◌}
use Rattle.plain_store.specs.Blanks.{field_blank}
use Rattle.plain_store.proofs.Fields.{walked}
use Rattle.plain_store.proofs.blanks.fields.Goals as goal

pub loop-number-preserved : goal.loop-number-preserved
loop-number-preserved c = walked (λ bs f. bs ++ field_blank (c.args.own.now ∷ c.args.before.now) f ∷ []) []
    c.args.of.now c.loop-number.number c.loop-number.all _ _ c.loop-number.invariant c.get.ensures c.in_ok-all.ensures
