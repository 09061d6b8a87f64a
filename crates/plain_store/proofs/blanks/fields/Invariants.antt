use Rattle.std.proofs.Common.{◌≡◌, [], ◌∷◌, ◌++◌, take}
use Rattle.std.specs.List.{fold}
use Rattle.plain_store.specs.Blanks.{field_blank}
use Rattle.plain_store.proofs.blanks.fields.Given as goal

abbrev pub invariant-loop-number : goal.invariant-loop-number
invariant-loop-number l = l.all ≡ fold (λ bs f. bs ++ field_blank (l.own ∷ l.before) f ∷ []) [] (take l.number l.of)
