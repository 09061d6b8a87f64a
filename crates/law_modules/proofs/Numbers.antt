-- The types of functions have numbers: that of each signature that is needed stands under its number.
use Rattle.std.proofs.Common.{◌≡◌, ℕ, zero, suc, ◌+◌, ◌<◌, ◌≤◌, ◌==◌, ◌||◌, Bool, true, false, List, [], ◌∷◌, ◌++◌, map, length, Some, None, Option, refl, sym, ap, ap₂, ◌∙◌, arith, inl, inr}
use Rattle.std.specs.Prelude.{slice_get, if◌then◌else◌, nat_le, cond, not}
use Rattle.std.specs.List.{fold, flat_map, list_any, position, position_or_len, range_with_len}
use Rattle.std.specs.Option.{unwrap_or}
use Rattle.std.proofs.lemmas.Bool.{and_parts, and_from, or_cases, or_left, or_right, eqb-true, eq-eqb, leb-true, leb-false, lt-ltb, cases_eq, cases_lt}
use Rattle.wasm_tree.specs.declared.kinds.FuncType.{FuncType}
use Rattle.def_scheme.specs.Scheme.{body_types}
use Rattle.def_scheme.specs.Signatures.{Signatures, Signature, signature, same_result, is_same, is_among, greater, most_arguments, if_among, of_arguments, in_order, body_signature, number_of, type_of}

-- ---- lists

pub any_left : {A : Type 0} (p : A → Bool) (xs ys : List A) → list_any p xs ≡ true → list_any p (xs ++ ys) ≡ true
any_left p [] ys h = absurd cc
any_left p (x ∷ xs) ys h = elim (or_cases (p x) (list_any p xs) h) [
  | inl e ↦ or_left (p x) (list_any p (xs ++ ys)) e
  | inr e ↦ or_right (p x) (list_any p (xs ++ ys))
      (any_left p xs ys e)
]

pub any_right : {A : Type 0} (p : A → Bool) (xs ys : List A) → list_any p ys ≡ true → list_any p (xs ++ ys) ≡ true
any_right p [] ys h = h
any_right p (x ∷ xs) ys h = or_right (p x) (list_any p (xs ++ ys)) (any_right p xs ys h)

pub mapped_at : {A B : Type 0} (f : A → B) (xs : List A) (k : ℕ) (x : A) → slice_get xs k ≡ Some x
    → slice_get (map f xs) k ≡ Some (f x)
mapped_at {B = B} f [] k x h = absurd cc
mapped_at f (y ∷ ys) zero x h = let e : y ≡ x = cc in ap (λ z. Some (f z)) e
mapped_at f (y ∷ ys) (suc k) x h = mapped_at f ys k x h

-- in a range the number itself is met
any_at : {A : Type 0} (p : A → Bool) (f : ℕ → List A) (n a len : ℕ) → a ≤ n → n < a + len → list_any p (f n) ≡ true
    → list_any p (flat_map f (range_with_len a len)) ≡ true
any_at p f n a zero le lt h = absurd (omega (arith, le, lt))
any_at p f n a (suc len) le lt h = elim (cases_eq a n) [
  | inl e ↦ any_left p (f a) (flat_map f (range_with_len (a + 1) len)) (ap (λ (k : ℕ). list_any p (f k)) e ∙ h)
  | inr ne ↦ any_right p (f a) (flat_map f (range_with_len (a + 1) len))
      (any_at p f n (a + 1) len (beyond a n le ne) (omega (arith, lt)) h)
]
  where
    beyond : (a n : ℕ) → a ≤ n → (a ≡ n → ⊥) → a + 1 ≤ n
    beyond a n le ne = elim (cases_lt a n) [ inl lt ↦ omega (arith, lt) | inr ge ↦ absurd (ne (omega (arith, le, ge))) ]

-- the first that passes
record IsFirst {A : Type 0} (p : A → Bool) (xs : List A) (k : ℕ) : Type 0 where
  below : k < length xs
  found : (x : A) × (slice_get xs k ≡ Some x) × (p x ≡ true)

first_in : {A : Type 0} (p : A → Bool) (y : A) (ys : List A) (k : ℕ) (q : Bool) → p y ≡ q → (q ≡ false → IsFirst p ys k)
    → IsFirst p (y ∷ ys) (cond (not q) (1 + k) 0)
first_in p y ys k true e h = record { below = omega arith; found = (y, refl, e) }
first_in {A = A} p y ys k false e h =
    let one = h refl in let i = one.below in
    let x : ◌≡◌ {A = ℕ} (1 + k) (suc k) = omega arith in
    record {
      below = omega (arith, i);
      found =
          (one.found.0, ap (λ (j : ℕ). slice_get (y ∷ ys) j) x ∙ one.found.1, one.found.2);
    }

is_first : {A : Type 0} (p : A → Bool) (xs : List A) → list_any p xs ≡ true → IsFirst p xs (position_or_len p xs)
is_first p [] h = absurd cc
is_first p (y ∷ ys) h = first_in p y ys (position_or_len p ys) (p y) refl
    (λ e. is_first p ys (rest (p y) (list_any p ys) h e))
  where
    rest : (a b : Bool) → a || b ≡ true → a ≡ false → b ≡ true
    rest a b h e = cc

pub position_at : {A : Type 0} (p : A → Bool) (xs : List A) → list_any p xs ≡ true → (x : A)
    × (slice_get xs (unwrap_or (position p xs) 0) ≡ Some x) × (p x ≡ true)
position_at p xs h =
    let one = is_first p xs h in
    let e : unwrap_or (position p xs) 0 ≡ position_or_len p xs =
    ap (λ (q : Bool). unwrap_or (cond {A = Option ℕ} q (Some (position_or_len p xs)) None) 0)
    (lt-ltb (position_or_len p xs) (length xs) one.below) in
    (one.found.0, ap (λ (k : ℕ). slice_get xs k) e ∙ one.found.1, one.found.2)

-- ---- signatures

result_is : (a b : Bool) → same_result a b ≡ true → a ≡ b
result_is true true h = refl
result_is true false h = absurd cc
result_is false true h = absurd cc
result_is false false h = refl

same_is : (a b : Signature) → is_same a b ≡ true → a ≡ b
same_is a b h = let both = and_parts (a.arguments == b.arguments) (same_result a.result b.result) h in
    ap₂ signature (eqb-true a.arguments b.arguments both.0) (result_is a.result b.result both.1)

self_result : (r : Bool) → same_result r r ≡ true
self_result true = refl
self_result false = refl

pub same_self : (s : Signature) → is_same s s ≡ true
same_self s = and_from (s.arguments == s.arguments) (same_result s.result s.result)
    (eq-eqb s.arguments s.arguments refl) (self_result s.result)

-- ---- no signature has more arguments than the most

if_greater : (a b : ℕ) (q : Bool) → nat_le a b ≡ q → (a ≤ (if q then b else a)) × (b ≤ (if q then b else a))
if_greater a b true e = let le = leb-true a b e in (omega (arith, le), omega arith)
if_greater a b false e = let lt = leb-false a b e in (omega arith, omega (arith, lt))

fold_most : (ss : Signatures) (so : ℕ) → so ≤ fold (λ so s. greater so s.arguments) so ss
fold_most [] so = omega arith
fold_most (s ∷ ss) so = let i = fold_most ss (greater so s.arguments) in
    let j = (if_greater so s.arguments (nat_le so s.arguments) refl).0 in omega (arith, i, j)

among_most : (ss : Signatures) (so : ℕ) (s : Signature) → is_among ss s ≡ true
    → s.arguments ≤ fold (λ so s. greater so s.arguments) so ss
among_most [] so s h = absurd cc
among_most (x ∷ xs) so s h = elim (or_cases (is_same s x) (is_among xs s) h) [
  | inl e ↦ (let i = fold_most xs (greater so x.arguments) in
      let j = (if_greater so x.arguments (nat_le so x.arguments) refl).1 in
      let k : s.arguments ≡ x.arguments = ap (λ (t : Signature). t.arguments) (same_is s x e) in omega (arith, i, j, k))
  | inr e ↦ among_most xs (greater so x.arguments) s e
]

-- ---- those that are needed are in the list

if_has : (s : Signature) (q : Bool) → q ≡ true → list_any (is_same s) (if q then s ∷ [] else []) ≡ true
if_has s true e = or_left (is_same s s) false (same_self s)
if_has s false e = absurd cc

arguments_have : (ss : Signatures) (n : ℕ) (r : Bool) → is_among ss (signature n r) ≡ true
    → is_same (signature n r) body_signature ≡ false → list_any (is_same (signature n r)) (of_arguments ss n) ≡ true
arguments_have ss zero true h e = if_has (signature 0 true) (is_among ss (signature 0 true)) h
arguments_have ss zero false h e = absurd cc
arguments_have ss (suc n) false h e = any_left (is_same (signature (suc n) false))
    (if_among ss (signature (suc n) false)) (if_among ss (signature (suc n) true))
    (if_has (signature (suc n) false) (is_among ss (signature (suc n) false)) h)
arguments_have ss (suc n) true h e = any_right (is_same (signature (suc n) true))
    (if_among ss (signature (suc n) false)) (if_among ss (signature (suc n) true))
    (if_has (signature (suc n) true) (is_among ss (signature (suc n) true)) h)

in_ordered : (ss : Signatures) (s : Signature) → is_among ss s ≡ true → is_same s body_signature ≡ false
    → list_any (is_same s) (in_order ss) ≡ true
in_ordered ss s h e = let most = among_most ss 0 s h in
    any_at (is_same s) (of_arguments ss) s.arguments 0 (suc (most_arguments ss)) (omega arith) (omega (arith, most))
    (arguments_have ss s.arguments s.result h e)

-- ---- the type under a number

behind_types : (more : List FuncType) (k : ℕ) → slice_get (body_types ++ more) (6 + k) ≡ slice_get more k
behind_types more k = let e : 6 + k ≡ suc (suc (suc (suc (suc (suc k))))) = omega arith in
    ap (λ (j : ℕ). slice_get (body_types ++ more) j) e

typed_case : (ss : Signatures) (s : Signature) (q : Bool) → is_same s body_signature ≡ q → is_among ss s ≡ true
    → slice_get (body_types ++ map type_of (in_order ss))
    (if q then 5 else 6 + unwrap_or (position (is_same s) (in_order ss)) 0) ≡ Some (type_of s)
typed_case ss s true e h = ap (λ (t : Signature). Some (type_of t)) (sym (same_is s body_signature e))
typed_case ss s false e h =
    let one = position_at (is_same s) (in_order ss) (in_ordered ss s h e) in
    let k : ℕ = unwrap_or (position (is_same s) (in_order ss)) 0 in
    behind_types (map type_of (in_order ss)) k ∙ mapped_at type_of (in_order ss) k one.0 one.1
    ∙ ap (λ (t : Signature). Some (type_of t)) (sym (same_is s one.0 one.2))

pub typed_at : (ss : Signatures) (s : Signature) → is_among ss s ≡ true
    → slice_get (body_types ++ map type_of (in_order ss)) (number_of (in_order ss) s.arguments s.result)
    ≡ Some (type_of s)
typed_at ss s h = typed_case ss s (is_same s body_signature) refl h
