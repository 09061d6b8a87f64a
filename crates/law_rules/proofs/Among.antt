-- What is in two lists.
use Rattle.std.proofs.Common.{List, [], ◌∷◌, ◌++◌, ◌⊎◌, inl, inr}
use Rattle.def_typing.specs.Parts.{Among, here, later}

module _ {A : Type 0} where
  pub among_left : {x : A} {xs : List A} (ys : List A) → Among x xs → Among x (xs ++ ys)
  among_left ys here = here
  among_left ys (later m) = later (among_left ys m)

  pub among_right : {x : A} (xs : List A) {ys : List A} → Among x ys → Among x (xs ++ ys)
  among_right [] m = m
  among_right (y ∷ xs) m = later (among_right xs m)

  pub among_split : {x : A} (xs : List A) {ys : List A} → Among x (xs ++ ys) → Among x xs ⊎ Among x ys
  among_split [] m = inr m
  among_split (y ∷ xs) here = inl here
  among_split (y ∷ xs) (later m) = elim (among_split xs m) [ inl q ↦ inl (later q) | inr q ↦ inr q ]
