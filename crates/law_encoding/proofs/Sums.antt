-- Sums over lists.
use Rattle.std.proofs.Common.{◌≡◌, ℕ, suc, ◌+◌, ◌≤◌, List, [], ◌∷◌, ◌++◌, length, refl, ap, arith}
use Rattle.std.specs.Prelude.{map}
use Rattle.law_encoding.specs.Sizes.{sum_of, total}

pub le_sum : (a b c d : ℕ) → a ≤ b → c ≤ d → a + c ≤ b + d
le_sum a b c d h k = omega (arith, h, k)

pub le_trans : (a b c : ℕ) → a ≤ b → b ≤ c → a ≤ c
le_trans a b c h k = omega (arith, h, k)

-- an equal number is no greater
pub le_of : (a b : ℕ) → a ≡ b → a ≤ b
le_of a b e = omega (arith, e)

pub le_by : (a b c : ℕ) → a ≡ b → b ≤ c → a ≤ c
le_by a b c e h = omega (arith, e, h)

pub sum_below : {X : Type 0} (f g : X → ℕ) → ((x : X) → f x ≤ g x) → (xs : List X) → sum_of f xs ≤ sum_of g xs
sum_below f g h [] = omega arith
sum_below f g h (x ∷ xs) = le_sum (f x) (g x) (sum_of f xs) (sum_of g xs) (h x) (sum_below f g h xs)

pub total_map : {X : Type 0} (f : X → ℕ) (xs : List X) → total (map f xs) ≡ sum_of f xs
total_map f [] = refl
total_map f (x ∷ xs) = ap (λ n. f x + n) (total_map f xs)

pub sum_map : {X Y : Type 0} (f : Y → ℕ) (g : X → Y) (xs : List X) → sum_of f (map g xs) ≡ sum_of (λ x. f (g x)) xs
sum_map f g [] = refl
sum_map f g (x ∷ xs) = ap (λ n. f (g x) + n) (sum_map f g xs)

add_step : (a b c d : ℕ) → b ≡ c + d → a + b ≡ a + c + d
add_step a b c d e = omega (arith, e)

pub sum_append : {X : Type 0} (f : X → ℕ) (xs ys : List X) → sum_of f (xs ++ ys) ≡ sum_of f xs + sum_of f ys
sum_append f [] ys = omega arith
sum_append f (x ∷ xs) ys = add_step (f x) (sum_of f (xs ++ ys)) (sum_of f xs) (sum_of f ys) (sum_append f xs ys)

count_step : (n m k : ℕ) → n ≤ m → 1 ≤ k → suc n ≤ k + m
count_step n m k h e = omega (arith, h, e)

-- each counts at least one
pub length_below : {X : Type 0} (g : X → ℕ) → ((x : X) → 1 ≤ g x) → (xs : List X) → length xs ≤ sum_of g xs
length_below g h [] = omega arith
length_below g h (x ∷ xs) = count_step (length xs) (sum_of g xs) (g x) (length_below g h xs) (h x)
