-- Types that are the same, one after the other.
use Rattle.std.proofs.Common.{◌≡◌, ℕ, suc, ◌+◌, ◌<◌, ◌≤◌, Bool, true, false, ◌&&◌, List, [], ◌∷◌, length, get_or, drop, refl, sym, ap, ◌∙◌, add-one}
use Rattle.std.proofs.lemmas.List.{drop_all}
use Rattle.std.proofs.Math.Seq.{drop-cons}
use Rattle.wasm_tree.specs.declared.kinds.ValueType.{ValueType}
use Rattle.wasm_tree.specs.Machine.{is_same_value_type, are_same}

and_false : (b : Bool) {c : Bool} → c ≡ false → (b && c) ≡ false
and_false true e = e
and_false false e = refl

pub other_length : (xs ys : List ValueType) → (length xs ≡ length ys → ⊥) → are_same xs ys ≡ false
other_length [] [] h = absurd (h refl)
other_length [] (y ∷ ys) h = refl
other_length (x ∷ xs) [] h = refl
other_length (x ∷ xs) (y ∷ ys) h = and_false (is_same_value_type x y) (other_length xs ys (λ e. h (ap suc e)))

module _ (xs ys : List ValueType) (k : ℕ) (x y : ValueType) (at-x : k < length xs) (at-y : k < length ys)
    (x-is : x ≡ get_or xs k x) (y-is : y ≡ get_or ys k y) where
  split : are_same (drop k xs) (drop k ys) ≡ (is_same_value_type x y && are_same (drop (suc k) xs) (drop (suc k) ys))
  split = rw (drop-cons xs k x at-x, drop-cons ys k y at-y, ← x-is, ← y-is) refl

  pub same_more : is_same_value_type x y ≡ true
      → are_same (drop (k + 1) xs) (drop (k + 1) ys) ≡ are_same (drop k xs) (drop k ys)
  same_more e = rw add-one (sym (split ∙ rw e refl))

  pub other_here : is_same_value_type x y ≡ false → are_same (drop k xs) (drop k ys) ≡ false
  other_here e = split ∙ rw e refl

pub same_none : (xs ys : List ValueType) (k : ℕ) → length xs ≤ k → length ys ≤ k
    → are_same (drop k xs) (drop k ys) ≡ true
same_none xs ys k h j = rw (drop_all k xs h, drop_all k ys j) refl
