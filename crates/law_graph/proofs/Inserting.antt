-- Every list has a stable order, and so have all files.
use Rattle.std.proofs.Common.{◌≡◌, ◌<◌, ℕ, zero, suc, ◌+◌, Bool, true, false, cond, not, List, [], ◌∷◌, length, get_or, refl, sym, ap, subst, ◌∙◌, arith}
use Rattle.std.specs.List.{filter}
use Rattle.std.specs.List.Sorted.{IsPermutation, IsSortedBy, IsStableBy, ties}
use Rattle.std.specs.Cmp.{IsStrictWeakOrder}
use Rattle.std.proofs.lemmas.Bool.{false≢true, and_parts}
use Rattle.std.proofs.lemmas.List.Sorted.{IsPermutation-refl, IsPermutation-sym, IsPermutation-trans, IsPermutation-cons, IsPermutation-middle}
use Rattle.m2_graph.specs.Files.{File, is_before, AreInOrder}
use Rattle.law_graph.proofs.Sorting.{by_key}

-- in front of the first element that is not before it
abbrev put : {X : Type 0} → (X → X → Bool) → X → List X → List X
put before x [] = x ∷ []
put before x (y ∷ ys) = cond (before y x) (y ∷ put before x ys) (x ∷ y ∷ ys)

pub record Sort {X : Type 0} (before : X → X → Bool) (xs : List X) : Type 0 where
  pub all : List X
  pub same : IsPermutation xs all
  pub sorted : IsSortedBy before all
  pub stable : IsStableBy before xs all

not_so : (b : Bool) → not b ≡ true → b ≡ false
not_so true e = sym e
not_so false e = refl

module _ {X : Type 0} (before : X → X → Bool) (o : IsStrictWeakOrder before) where
  -- ---- the order

  sorted_cons : (x : X) (xs : List X) → ((d : X) → 0 < length xs → before (get_or xs 0 d) x ≡ false)
      → IsSortedBy before xs → IsSortedBy before (x ∷ xs)
  sorted_cons x xs first up zero d l h = first d (omega arith)
  sorted_cons x xs first up (suc k) d l h =
      let e : suc (k + 1) ≡ suc k + 1 = omega arith in
      subst (λ (n : ℕ). before (get_or (x ∷ xs) n d) (get_or xs k d) ≡ false) e (up k d (omega arith) (omega arith))

  rest_sorted : (x : X) (xs : List X) → IsSortedBy before (x ∷ xs) → IsSortedBy before xs
  rest_sorted x xs up k d l h = let e : suc k + 1 ≡ suc (k + 1) = omega arith in
      subst (λ (n : ℕ). before (get_or (x ∷ xs) n d) (get_or xs k d) ≡ false) e
      (up (suc k) d (omega arith) (omega arith))

  put_first : (x y : X) (ys : List X) → before x y ≡ false
      → ((d : X) → 0 < length ys → before (get_or ys 0 d) y ≡ false) → (d : X)
      → before (get_or (put before x ys) 0 d) y ≡ false
  put_first x y [] e first d = e
  put_first x y (z ∷ zs) e first d = by (before z x)
    where
      by : (b : Bool) → before (get_or (cond b (z ∷ put before x zs) (x ∷ z ∷ zs)) 0 d) y ≡ false
      by true = first d (omega arith)
      by false = e

  put_sorted : (x : X) (xs : List X) → IsSortedBy before xs → IsSortedBy before (put before x xs)
  put_sorted x [] up = λ k d l h. absurd (omega arith)
  put_sorted x (y ∷ ys) up = by (put_sorted x ys (rest_sorted y ys up)) (before y x) refl
    where
      by : IsSortedBy before (put before x ys) → (b : Bool) → before y x ≡ b
          → IsSortedBy before (cond b (y ∷ put before x ys) (x ∷ y ∷ ys))
      by more true e = sorted_cons y (put before x ys)
          (λ d l. put_first x y ys (o.one_way y x e) (λ c m. up 0 c (omega arith) (omega arith)) d) more
      by more false e = sorted_cons x (y ∷ ys) (λ d l. e) up

  -- ---- the same elements

  put_same : (x : X) (xs : List X) → IsPermutation (x ∷ xs) (put before x xs)
  put_same x [] = IsPermutation-refl (x ∷ [])
  put_same x (y ∷ ys) = by (put_same x ys) (before y x)
    where
      by : IsPermutation (x ∷ ys) (put before x ys) → (b : Bool)
          → IsPermutation (x ∷ y ∷ ys) (cond b (y ∷ put before x ys) (x ∷ y ∷ ys))
      by more true = IsPermutation-trans (x ∷ y ∷ ys) (y ∷ x ∷ ys) (y ∷ put before x ys)
          (IsPermutation-sym (y ∷ x ∷ ys) (x ∷ y ∷ ys) (IsPermutation-middle (y ∷ []) x ys))
          (IsPermutation-cons y (x ∷ ys) (put before x ys) more)
      by more false = IsPermutation-refl (x ∷ y ∷ ys)

  -- ---- those that tie

  never_tie : (x y z : X) → before y x ≡ true → ties before z x ≡ true → ties before z y ≡ true → ⊥
  never_tie x y z e a b =
      let p = and_parts (not (before z x)) (not (before x z)) a in
      let q = and_parts (not (before z y)) (not (before y z)) b in
      false≢true (sym (o.chain y z x (not_so (before y z) q.1) (not_so (before z x) p.0)) ∙ e)

  put_stable : (x : X) (xs : List X) → IsStableBy before (x ∷ xs) (put before x xs)
  put_stable x [] z = refl
  put_stable x (y ∷ ys) z = by (put_stable x ys z) (before y x) refl
    where
      swap : (b c : Bool) (rest : List X) → (b ≡ true → c ≡ true → ⊥)
          → cond c (y ∷ cond b (x ∷ rest) rest) (cond b (x ∷ rest) rest)
          ≡ cond b (x ∷ cond c (y ∷ rest) rest) (cond c (y ∷ rest) rest)
      swap true true rest h = absurd (h refl refl)
      swap true false rest h = refl
      swap false true rest h = refl
      swap false false rest h = refl

      by : filter (ties before z) (put before x ys) ≡ filter (ties before z) (x ∷ ys) → (b : Bool) → before y x ≡ b
          → filter (ties before z) (cond b (y ∷ put before x ys) (x ∷ y ∷ ys)) ≡ filter (ties before z) (x ∷ y ∷ ys)
      by more true e = ap (λ (zs : List X). cond (ties before z y) (y ∷ zs) zs) more
          ∙ swap (ties before z x) (ties before z y) (filter (ties before z) ys) (never_tie x y z e)
      by more false e = refl

  -- ---- the whole

  pub sort : (xs : List X) → Sort before xs
  sort [] = record {
    all = [];
    same = IsPermutation-refl [];
    sorted = λ k d l h. absurd (omega arith);
    stable =
        λ z. refl;
  }
  sort (x ∷ xs) =
      let s = sort xs in
      record {
        all = put before x s.all;
        same = IsPermutation-trans (x ∷ xs) (x ∷ s.all) (put before x s.all) (IsPermutation-cons x xs s.all s.same)
            (put_same x s.all);
        sorted = put_sorted x s.all s.sorted;
        stable = λ z. put_stable x s.all z ∙ ap (λ (zs : List X). cond (ties before z x) (x ∷ zs) zs) (s.stable z);
      }

-- All files have an order.
pub order_files : (given : List File) → (ordered : List File) × AreInOrder given ordered
order_files given = let s = sort is_before (by_key (λ (f : File). f.name)) given in
    (s.all, record { same = s.same; sorted = s.sorted; stable = s.stable })
