-- The greatest over lists.
use Rattle.std.proofs.Common.{◌≡◌, ℕ, zero, suc, ◌≤◌, List, [], ◌∷◌, ◌++◌, refl, ap, arith}
use Rattle.std.specs.Prelude.{map, slice_set}
use Rattle.law_encoding.specs.Nesting.{◌⊔◌, deepest_of, deepest}

pub both_below : (a b c d : ℕ) → a ≤ b → c ≤ d → a ⊔ c ≤ b ⊔ d
both_below a b c d h k = omega (arith, h, k)

pub deepest_below : {X : Type 0} (f g : X → ℕ) → ((x : X) → f x ≤ g x) → (xs : List X)
    → deepest_of f xs ≤ deepest_of g xs
deepest_below f g h [] = omega arith
deepest_below f g h (x ∷ xs) = both_below (f x) (g x) (deepest_of f xs) (deepest_of g xs) (h x) (deepest_below f g h xs)

pub deepest_map : {X : Type 0} (f : X → ℕ) (xs : List X) → deepest (map f xs) ≡ deepest_of f xs
deepest_map f [] = refl
deepest_map f (x ∷ xs) = ap (λ n. f x ⊔ n) (deepest_map f xs)

join_step : (a b c d : ℕ) → b ≡ c ⊔ d → a ⊔ b ≡ a ⊔ c ⊔ d
join_step a b c d e = omega (arith, e)

none_first : (n : ℕ) → n ≡ 0 ⊔ n
none_first n = omega arith

pub deepest_append : {X : Type 0} (f : X → ℕ) (xs ys : List X)
    → deepest_of f (xs ++ ys) ≡ deepest_of f xs ⊔ deepest_of f ys
deepest_append f [] ys = none_first (deepest_of f ys)
deepest_append f (x ∷ xs) ys = join_step (f x) (deepest_of f (xs ++ ys)) (deepest_of f xs) (deepest_of f ys)
    (deepest_append f xs ys)

set_none : (n : ℕ) → 0 ≤ 0 ⊔ n
set_none n = omega arith

set_here : (a b m : ℕ) → a ⊔ b ≤ m ⊔ b ⊔ a
set_here a b m = omega arith

set_step : (a b c n : ℕ) → b ≤ c ⊔ n → a ⊔ b ≤ a ⊔ c ⊔ n
set_step a b c n l = omega (arith, l)

-- one that is put in place of another
pub deepest_set : {X : Type 0} (f : X → ℕ) (xs : List X) (n : ℕ) (x : X)
    → deepest_of f (slice_set xs n x) ≤ deepest_of f xs ⊔ f x
deepest_set f [] n x = set_none (f x)
deepest_set f (y ∷ ys) zero x = set_here (f x) (deepest_of f ys) (f y)
deepest_set f (y ∷ ys) (suc n) x = set_step (f y) _ _ (f x) (deepest_set f ys n x)
