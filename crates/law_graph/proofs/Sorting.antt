-- A list in order, in which those that tie stand as they were given, is the only one.
use Rattle.std.proofs.Common.{◌≡◌, ℕ, suc, ◌+◌, Bool, true, false, cond, not, ◌&&◌, List, [], ◌∷◌, get_or, refl, sym, ap, ap₂, subst, ◌∙◌, inl, inr, arith}
use Rattle.std.specs.Cmp.{IsStrictWeakOrder}
use Rattle.std.specs.Cmp.Lexicographic.{slice_cmp}
use Rattle.std.specs.List.{filter, Contains}
use Rattle.std.specs.List.Sorted.{IsSortedBy, IsStableBy, ties}
use Rattle.std.specs.Ordering.{nat_cmp, is_lt}
use Rattle.std.proofs.lemmas.Bool.{cases_Bool}
use Rattle.std.proofs.lemmas.Cmp.{nat_list_cmp_total}
use Rattle.std.proofs.lemmas.List.Sorted.{ranks_by, sorted_far}

-- ---- the first element and the others

pub same_first : {X : Type 0} (x y : X) (xs ys : List X) → x ∷ xs ≡ y ∷ ys → x ≡ y
same_first x y xs ys e = cc

pub same_rest : {X : Type 0} (x y : X) (xs ys : List X) → x ∷ xs ≡ y ∷ ys → xs ≡ ys
same_rest x y xs ys e = cc

pub never_empty : {X : Type 0} (x : X) (xs : List X) → [] ≡ x ∷ xs → ⊥
never_empty x xs e = cc

-- what a filter keeps first is in the list
kept : {X : Type 0} (p : X → Bool) (xs rest : List X) (x : X) → filter p xs ≡ x ∷ rest → Contains xs x
kept p [] rest x e = absurd (never_empty x rest e)
kept {X} p (y ∷ ys) rest x e = step (λ h. kept p ys rest x h) (p y) e
  where
    step : (filter p ys ≡ x ∷ rest → Contains ys x) → (b : Bool) → cond b (y ∷ filter p ys) (filter p ys) ≡ x ∷ rest
        → Contains (y ∷ ys) x
    step later true h = (0, omega arith, same_first y x (filter p ys) rest h)
    step later false h = let r = later h in (suc r.0, omega (arith, r.1), r.2)

same_kept : {X : Type 0} (b : Bool) (x y : X) (xs ys : List X) → cond b (x ∷ xs) xs ≡ cond b (y ∷ ys) ys → xs ≡ ys
same_kept true x y xs ys e = same_rest x y xs ys e
same_kept false x y xs ys e = e

not_both : (b c : Bool) → b ≡ false → c ≡ false → (not b && not c) ≡ true
not_both b c e f = ap₂ (λ x y. not x && not y) e f

module _ {X : Type 0} (before : X → X → Bool) (o : IsStrictWeakOrder before) where
  never_before_itself : (x : X) → before x x ≡ false
  never_before_itself x = elim (cases_Bool (before x x)) [ inl h ↦ o.one_way x x h | inr h ↦ h ]

  ties_itself : (x : X) → ties before x x ≡ true
  ties_itself x = not_both (before x x) (before x x) (never_before_itself x) (never_before_itself x)

  keeps_first : (x y : X) (ys : List X) → ties before x y ≡ true
      → filter (ties before x) (y ∷ ys) ≡ y ∷ filter (ties before x) ys
  keeps_first x y ys t = ap (λ (b : Bool). cond b (y ∷ filter (ties before x) ys) (filter (ties before x) ys)) t

  rest_sorted : (x : X) (xs : List X) → IsSortedBy before (x ∷ xs) → IsSortedBy before xs
  rest_sorted x xs up = λ k d l h. let e : suc k + 1 ≡ suc (k + 1) = omega arith in
      subst (λ (n : ℕ). before (get_or (x ∷ xs) n d) (get_or xs k d) ≡ false) e
      (up (suc k) d (omega arith) (omega (arith, h)))

  first_least : (y z : X) (ys : List X) → IsSortedBy before (y ∷ ys) → Contains (y ∷ ys) z → before z y ≡ false
  first_least y z ys up c = ap (λ (w : X). before w y) (sym c.2)
      ∙ sorted_far before o (y ∷ ys) up 0 c.0 z (omega arith) c.1

  -- what stands first in the one list is not after what stands first in the other
  first_before : (x y : X) (xs ys : List X) → IsSortedBy before (y ∷ ys)
      → filter (ties before x) (x ∷ xs) ≡ filter (ties before x) (y ∷ ys) → before x y ≡ false
  first_before x y xs ys up e = first_least y x ys up
      (kept (ties before x) (y ∷ ys) (filter (ties before x) xs) x (sym e ∙ keeps_first x x xs (ties_itself x)))

  first_same : (x y : X) (xs ys : List X) → IsSortedBy before (x ∷ xs) → IsSortedBy before (y ∷ ys)
      → ((z : X) → filter (ties before z) (x ∷ xs) ≡ filter (ties before z) (y ∷ ys)) → x ≡ y
  first_same x y xs ys up up' same =
      let t = not_both (before x y) (before y x) (first_before x y xs ys up' (same x))
      (first_before y x ys xs up (sym (same y))) in
      same_first x y (filter (ties before x) xs) (filter (ties before x) ys)
      (sym (keeps_first x x xs (ties_itself x)) ∙ same x ∙ keeps_first x y ys t)

  rest_same : (x y : X) (xs ys : List X) → x ≡ y
      → ((z : X) → filter (ties before z) (x ∷ xs) ≡ filter (ties before z) (y ∷ ys)) → (z : X)
      → filter (ties before z) xs ≡ filter (ties before z) ys
  rest_same x y xs ys e same z = same_kept (ties before z x) x y (filter (ties before z) xs) (filter (ties before z) ys)
      (same z ∙ ap (λ (w : X). cond (ties before z w) (y ∷ filter (ties before z) ys) (filter (ties before z) ys))
      (sym e))

  -- Two lists in order are one where those that tie stand in the same order in both.
  pub one_sorted : (xs ys : List X) → IsSortedBy before xs → IsSortedBy before ys
      → ((z : X) → filter (ties before z) xs ≡ filter (ties before z) ys) → xs ≡ ys
  one_sorted [] [] up up' same = refl
  one_sorted [] (y ∷ ys) up up' same = absurd
      (never_empty y (filter (ties before y) ys) (same y ∙ keeps_first y y ys (ties_itself y)))
  one_sorted (x ∷ xs) [] up up' same = absurd
      (never_empty x (filter (ties before x) xs) (sym (same x) ∙ keeps_first x x xs (ties_itself x)))
  one_sorted (x ∷ xs) (y ∷ ys) up up' same =
      let e = first_same x y xs ys up up' same in
      ap₂ (λ (z : X) (zs : List X). z ∷ zs) e
      (one_sorted xs ys (rest_sorted x xs up) (rest_sorted y ys up') (rest_same x y xs ys e same))

  -- What a stable sort makes of a list is determined.
  pub one_stable_sort : (given xs ys : List X) → IsSortedBy before xs → IsStableBy before given xs
      → IsSortedBy before ys → IsStableBy before given ys → xs ≡ ys
  one_stable_sort given xs ys up stable up' stable' = one_sorted xs ys up up' (λ z. stable z ∙ sym (stable' z))

-- The order of keys that are lists of numbers is such an order.
pub by_key : {X : Type 0} (key : X → List ℕ) → IsStrictWeakOrder (λ x y. is_lt (slice_cmp nat_cmp (key x) (key y)))
by_key key = ranks_by nat_list_cmp_total key
