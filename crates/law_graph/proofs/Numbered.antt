-- The numbering of definitions is determined.
use Rattle.std.proofs.Common.{◌≡◌, ◌<◌, ◌≤◌, ℕ, zero, suc, ◌+◌, Bool, List, length, take, get_or, refl, sym, ap, subst, ◌∙◌, inl, inr, arith, slice_index}
use Rattle.std.proofs.lemmas.Bool.{false≢true, cases_order}
use Rattle.std.proofs.lemmas.List.{take_more_same, take_all}
use Rattle.graph_walk.specs.Links.{has}
use Rattle.graph_walk.specs.Numbering.{is_ready, IsNext, IsNumbering}

-- the first definition that is ready is one
pub one_next : (links : List (List ℕ)) (definitions : List Bool) (done : ℕ → Bool) (m n : ℕ)
    → IsNext links definitions done m → IsNext links definitions done n → m ≡ n
one_next links definitions done m n a b = elim (cases_order m n) [
  | inl e ↦ e
  | inr other ↦ elim other [
    | inl l ↦ absurd (false≢true (sym (b.first m l) ∙ a.ready))
    | inr g ↦ absurd (false≢true (sym (a.first n g) ∙ b.ready))
  ]
]

module _ (links : List (List ℕ)) (definitions : List Bool) where
  -- after equal beginnings the next ones are equal
  next_same : (a b : List ℕ) (k : ℕ) → IsNumbering links definitions a → IsNumbering links definitions b → k < length a
      → k < length b → take k a ≡ take k b → get_or a k 0 ≡ get_or b k 0
  next_same a b k x y l m e = one_next links definitions (has (take k b)) (slice_index a k) (slice_index b k)
      (subst (λ (front : List ℕ). IsNext links definitions (has front) (slice_index a k)) e (x.each k l)) (y.each k m)

  same_front : (a b : List ℕ) → IsNumbering links definitions a → IsNumbering links definitions b → (k : ℕ)
      → k ≤ length a → k ≤ length b → take k a ≡ take k b
  same_front a b x y zero l m = refl
  same_front a b x y (suc k) l m =
      let e = same_front a b x y k (omega arith) (omega arith) in
      let r = take_more_same a b k 0 (omega arith) (omega arith) e (next_same a b k x y (omega arith) (omega arith) e)
      in
      let s : k + 1 ≡ suc k = omega arith in
      subst (λ (n : ℕ). take n a ≡ take n b) s r

  -- a numbering is no proper beginning of another
  never_shorter : (a b : List ℕ) → IsNumbering links definitions a → IsNumbering links definitions b
      → length a < length b → ⊥
  never_shorter a b x y l =
      let e : a ≡ take (length a) b = sym (take_all (length a) a (omega arith))
      ∙ same_front a b x y (length a) (omega arith) (omega arith) in
      let r = (y.each (length a) l).ready in
      false≢true (sym (x.whole (slice_index b (length a)))
      ∙ ap (λ (front : List ℕ). is_ready links definitions (has front) (slice_index b (length a))) e ∙ r)

  same_length : (a b : List ℕ) → IsNumbering links definitions a → IsNumbering links definitions b → length a ≡ length b
  same_length a b x y = elim (cases_order (length a) (length b)) [
    | inl e ↦ e
    | inr other ↦ elim other [ inl l ↦ absurd (never_shorter a b x y l) | inr g ↦ absurd (never_shorter b a y x g) ]
  ]

  -- The order in which definitions get numbers is determined.
  pub one_numbering : (a b : List ℕ) → IsNumbering links definitions a → IsNumbering links definitions b → a ≡ b
  one_numbering a b x y =
      let e = same_length a b x y in
      sym (take_all (length a) a (omega arith)) ∙ same_front a b x y (length a) (omega arith) (omega (arith, e))
      ∙ take_all (length a) b (omega (arith, e))
