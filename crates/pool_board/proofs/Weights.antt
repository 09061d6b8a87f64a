-- Lists compared by what they weigh.
use Rattle.std.proofs.Common.{◌≡◌, ℕ, zero, suc, ◌+◌, ◌≤◌, List, [], ◌∷◌, ◌++◌, set, sym, ap, arith}
use mathlib.Core.Option.{some, some-injective, some-ne-none}
use lib.ListN.{get_elem?}
use Rattle.pool_board.specs.Lists.{weigh, together}

module _ {A : Type 0} where
  pub weigh-append : (h : A → ℕ) (xs ys : List A) → weigh h (xs ++ ys) ≡ weigh h xs + weigh h ys
  weigh-append h [] ys = omega arith
  weigh-append h (x ∷ xs) ys = omega (arith, weigh-append h xs ys)

  pub weigh-push : (h : A → ℕ) (xs : List A) (y : A) → weigh h (xs ++ y ∷ []) ≡ weigh h xs + h y
  weigh-push h xs y = omega (arith, weigh-append h xs (y ∷ []))

  -- the lists weigh the same, whatever the weights
  abbrev pub Same : List A → List A → Type 0
  Same xs ys = (h : A → ℕ) → weigh h ys ≡ weigh h xs

  -- the second has one item more
  abbrev pub Adds : List A → A → List A → Type 0
  Adds xs a ys = (h : A → ℕ) → weigh h ys ≡ weigh h xs + h a

module _ {S A : Type 0} (f : S → List A) where
  pub together_set : (h : A → ℕ) (views : List S) (id : ℕ) (v w : S) → get_elem? views id ≡ some v
      → weigh h (together f (set views id w)) + weigh h (f v) ≡ weigh h (together f views) + weigh h (f w)
  together_set h [] id v w e = absurd (some-ne-none v (sym e))
  together_set h (x ∷ xs) zero v w e = let same : weigh h (f x) ≡ weigh h (f v) =
      ap (λ (z : S). weigh h (f z)) (some-injective x v e) in
      omega (arith, weigh-append h (f w) (together f xs), weigh-append h (f x) (together f xs))
  together_set h (x ∷ xs) (suc id) v w e =
      omega (
        arith,
        weigh-append h (f x) (together f (set xs id w)),
        weigh-append h (f x) (together f xs),
        together_set
            h xs id v w e,
      )

  pub together_snoc : (h : A → ℕ) (views : List S) (w : S)
      → weigh h (together f (views ++ w ∷ [])) ≡ weigh h (together f views) + weigh h (f w)
  together_snoc h [] w = omega (arith, weigh-append h (f w) [])
  together_snoc h (x ∷ xs) w = omega (
    arith,
    weigh-append h (f x) (together f (xs ++ w ∷ [])),
    weigh-append h (f x)
        (together f xs),
    together_snoc h xs w,
  )

  pub set_same : (views : List S) (id : ℕ) (v w : S) → get_elem? views id ≡ some v → f w ≡ f v
      → Same (together f views) (together f (set views id w))
  set_same views id v w at e h = let same : weigh h (f w) ≡ weigh h (f v) = ap (weigh h) e in
      omega (arith, together_set h views id v w at)

  pub set_adds : (views : List S) (id : ℕ) (v w : S) (a : A) → get_elem? views id ≡ some v → f w ≡ f v ++ a ∷ []
      → Adds (together f views) a (together f (set views id w))
  set_adds views id v w a at e h = let same : weigh h (f w) ≡ weigh h (f v ++ a ∷ []) = ap (weigh h) e in
      omega (arith, together_set h views id v w at, weigh-push h (f v) a)

  pub snoc_same : (views : List S) (w : S) → f w ≡ [] → Same (together f views) (together f (views ++ w ∷ []))
  snoc_same views w e h = let same : weigh h (f w) ≡ 0 = ap (weigh h) e in omega (arith, together_snoc h views w)

-- the weight of one item
pub weigh_set : {S : Type 0} (h : S → ℕ) (views : List S) (id : ℕ) (v w : S) → get_elem? views id ≡ some v
    → weigh h (set views id w) + h v ≡ weigh h views + h w
weigh_set h [] id v w e = absurd (some-ne-none v (sym e))
weigh_set {S} h (x ∷ xs) zero v w e = let same : h x ≡ h v = ap h (some-injective x v e) in omega arith
weigh_set h (x ∷ xs) (suc id) v w e = omega (arith, weigh_set h xs id v w e)

pub weigh_at : {S : Type 0} (h : S → ℕ) (views : List S) (id : ℕ) (v : S) → get_elem? views id ≡ some v
    → h v ≤ weigh h views
weigh_at h [] id v e = absurd (some-ne-none v (sym e))
weigh_at h (x ∷ xs) zero v e = let same : h x ≡ h v = ap h (some-injective x v e) in omega arith
weigh_at h (x ∷ xs) (suc id) v e = omega (arith, weigh_at h xs id v e)

module _ {S A : Type 0} (f : S → List A) where
  -- a seat's own list is a part of all lists
  pub own_part : (views : List S) (id : ℕ) (v : S) → get_elem? views id ≡ some v → (h : A → ℕ)
      → weigh h (f v) ≤ weigh h (together f views)
  own_part [] id v e h = absurd (some-ne-none v (sym e))
  own_part (x ∷ xs) zero v e h = let same : weigh h (f x) ≡ weigh h (f v) =
      ap (λ (z : S). weigh h (f z)) (some-injective x v e) in omega (arith, weigh-append h (f x) (together f xs))
  own_part (x ∷ xs) (suc id) v e h = omega (arith, weigh-append h (f x) (together f xs), own_part xs id v e h)
