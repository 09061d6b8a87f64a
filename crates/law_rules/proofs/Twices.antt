-- Names twice, and tests of either.
use Rattle.std.proofs.Common.{◌≡◌, ℕ, Bool, true, false, List, [], ◌∷◌, inl, inr, refl}
use Rattle.std.specs.Prelude.{◌||◌}
use Rattle.m2_rule.specs.declared.breach.Breach.{Breach}
use Rattle.m2_tree.specs.declared.name.Ident.{Ident}
use Rattle.def_typing.specs.TypeExprs.{Twice}

pub twice_as : {P Q : List ℕ → Type 0} → ((n : List ℕ) → P n → Q n) → (xs : List Ident) (f : Breach) → Twice P xs f
    → Twice Q xs f
twice_as h [] f t = absurd t
twice_as h (x ∷ xs) f (inl (p, e)) = inl (h x.name p, e)
twice_as h (x ∷ xs) f (inr t) = inr (twice_as (λ n z. elim z [ inl e ↦ inl e | inr p ↦ inr (h n p) ]) xs f t)

pub either_first : (a b : Bool) → a ≡ true → (a || b) ≡ true
either_first true b e = refl
either_first false b e = absurd cc

pub either_second : (a b : Bool) → b ≡ true → (a || b) ≡ true
either_second true b e = refl
either_second false b e = e
