-- Relations on scopes that each small step keeps.
use Rattle.std.proofs.Common.{◌≡◌, Bool, true, false, cond, List, [], ◌∷◌, refl}
use Rattle.std.specs.List.{fold}
use Rattle.check_scope.specs.Scopes.{State}
use Rattle.check_scope.specs.declared.scope.Scope.{Scope}

pub record IsOrder {T : Type 0} (R : Scope T → Scope T → Type 0) : Type 0 where
  pub same : (s : Scope T) → R s s
  pub next : (a b c : Scope T) → R a b → R b c → R a c

-- a fact that stays
pub fact : {T : Type 0} (P : Scope T → Type 0) → IsOrder {T = T} (λ s t. P s → P t)
fact P = record { same = λ s h. h; next = λ a b c p q h. q (p h) }

module _ {T : Type 0} {R : Scope T → Scope T → Type 0} (o : IsOrder R) where
  pub either : {A : Type 0} (s : Scope T) (b : Bool) (x y : State A T) → (b ≡ true → R s x.0) → R s y.0
      → R s (cond b x y).0
  either s true x y p q = p refl
  either s false x y p q = q

  pub either_scope : (s : Scope T) (b : Bool) (x y : Scope T) → (b ≡ true → R s x) → R s y → R s (cond b x y)
  either_scope s true x y p q = p refl
  either_scope s false x y p q = q

  module _ {A X : Type 0} (at : A → Scope T) (f : A → X → A) (step : (a : A) (x : X) → R (at a) (at (f a x))) where
    pub steps : (xs : List X) (a : A) → R (at a) (at (fold f a xs))
    steps [] a = o.same (at a)
    steps (x ∷ xs) a = o.next (at a) (at (f a x)) (at (fold f (f a x) xs)) (step a x) (steps xs (f a x))
