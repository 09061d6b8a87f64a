-- The last of a list.
use Rattle.std.proofs.Common.{◌≡◌, ℕ, List, [], ◌∷◌, ◌++◌, Option, Some, None, refl, sym, ap, ◌∙◌}
use Rattle.m2_rule.specs.declared.breach.Breach.{Breach}
use Rattle.check_scope.specs.declared.scope.Block.{Block}
use Rattle.check_scope.specs.declared.known.Known.{Known}
use Rattle.check_scope.specs.Inwards.{split_last, pop_block}

pub split_push : {A : Type 0} (xs : List A) (x : A) → split_last (xs ++ x ∷ []) ≡ Some (xs, x)
split_push [] x = refl
split_push {A = A} (y ∷ xs) x = ap (λ (o : Option (List A × A)). elim o
    [ None ↦ Some ([], y) | Some p ↦ Some (y ∷ p.0, p.1) ]) (split_push xs x)

pub pop_some : (old new : List (Block Breach)) (b : Block Breach) → old ≡ new ++ b ∷ []
    → (new, b.names) ≡ pop_block (split_last old)
pop_some old new b e = sym (ap (λ (bs : List (Block Breach)). pop_block (split_last bs)) e
    ∙ ap (pop_block {T = Breach}) (split_push new b))

pub pop_none : (old new : List (Block Breach)) (names : List (List ℕ × Known Breach)) → old ≡ [] → new ≡ [] → names ≡ []
    → (new, names) ≡ pop_block (split_last old)
pop_none old new names e n k = ap (λ (bs : List (Block Breach)). (bs, names)) n
    ∙ ap (λ (ns : List (List ℕ × Known Breach)). ([], ns)) k
    ∙ sym (ap (λ (bs : List (Block Breach)). pop_block (split_last bs)) e)
