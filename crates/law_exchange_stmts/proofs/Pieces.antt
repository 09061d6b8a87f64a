-- Pieces of statements, with other numbers of modules.
use Rattle.std.proofs.Common.{◌≡◌, List, [], ◌∷◌, map, Option, Some, None, option_map, refl, ap, ◌∙◌}
use Rattle.std.specs.Prelude.{Result, Ok, Err}
use Rattle.std.specs.Option.{is_some}
use Rattle.check_scope.specs.Elaborated.{◌▷◌}
use Rattle.check_stmt_parts.specs.Simple.{front}
use Rattle.law_exchange_types.specs.Pieces.{map_ok}

pub is_some_moves : {A B : Type 0} (f : A → B) (o : Option A) → is_some (option_map f o) ≡ is_some o
is_some_moves f None = refl
is_some_moves f (Some a) = refl

pub front_moves : {A B : Type 0} (f : A → B) (xs : List A) → front (map f xs) ≡ map f (front xs)
front_moves f [] = refl
front_moves f (x ∷ []) = refl
front_moves f (x ∷ y ∷ xs) = ap (λ ys. f x ∷ ys) (front_moves f (y ∷ xs))

-- what looks at a meaning that has moved
pub then_moves : {A B C D R : Type 0} (f : A → B) (h : C → D) (r : Result A R) (u : Result B R)
    (k : A → Result C R) (l : B → Result D R) → u ≡ map_ok f r → ((a : A) → l (f a) ≡ map_ok h (k a))
    → (u ▷ l) ≡ map_ok h (r ▷ k)
then_moves f h (Ok a) u k l e m = ap (λ v. v ▷ l) e ∙ m a
then_moves f h (Err d) u k l e m = ap (λ v. v ▷ l) e

-- the same, if its own answer has no number
pub then_same : {A B C R : Type 0} (f : A → B) (r : Result A R) (u : Result B R)
    (k : A → Result C R) (l : B → Result C R) → u ≡ map_ok f r → ((a : A) → l (f a) ≡ k a) → (u ▷ l) ≡ (r ▷ k)
then_same f (Ok a) u k l e m = ap (λ v. v ▷ l) e ∙ m a
then_same f (Err d) u k l e m = ap (λ v. v ▷ l) e
