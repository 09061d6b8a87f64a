-- The types that a module lists count no more than those that it needs.
use Rattle.std.proofs.Common.{◌≡◌, ℕ, zero, suc, ◌+◌, ◌≤◌, ◌<◌, ◌==◌, Bool, true, false, ◌&&◌, ◌||◌, [], ◌∷◌, ◌++◌, refl, subst, arith}
use Rattle.std.specs.Prelude.{if◌then◌else◌}
use Rattle.std.specs.List.{flat_map, range_with_len}
use Rattle.std.proofs.lemmas.Bool.{eqb-true}
use Rattle.def_scheme.specs.Signatures.{Signature, Signatures, signature, same_result, is_same, is_among, if_among, of_arguments, most_arguments, in_order}
use Rattle.law_encoding.specs.FunctionTypes.{type_counts, types_count}
use Rattle.law_encoding.proofs.Sums.{sum_append}

abbrev one_if : Bool → Signature → Signatures
one_if b x = if b then x ∷ [] else []

one_of_two : (b c : Bool) (x : Signature)
    → types_count (one_if (b || c) x) ≤ types_count (one_if b x) + types_count (one_if c x)
one_of_two true true x = more (type_counts x) where
  more : (n : ℕ) → n + 0 ≤ n + 0 + (n + 0)
  more n = omega arith
one_of_two true false x = same (type_counts x) where
  same : (n : ℕ) → n + 0 ≤ n + 0 + 0
  same n = omega arith
one_of_two false true x = same (type_counts x) where
  same : (n : ℕ) → n + 0 ≤ 0 + (n + 0)
  same n = omega arith
one_of_two false false x = omega arith

pair_sum : (m a b n c d p e f : ℕ) → m ≡ a + b → n ≡ c + d → p ≡ e + f → a ≤ c + e → b ≤ d + f → m ≤ n + p
pair_sum m a b n c d p e f x y z h l = omega (arith, x, y, z, h, l)

-- one signature more among those that are needed
one_more : (s : Signature) (ss : Signatures) (n : ℕ)
    → types_count (of_arguments (s ∷ ss) n) ≤ types_count (of_arguments (s ∷ []) n) + types_count (of_arguments ss n)
one_more s ss zero = both (is_same (signature 0 true) s) (is_among ss (signature 0 true)) where
  both : (b c : Bool) → types_count (one_if (b || c) (signature 0 true)) ≤ types_count
      (one_if (b || false) (signature 0 true)) + types_count (one_if c (signature 0 true))
  both true c = one_of_two true c (signature 0 true)
  both false c = one_of_two false c (signature 0 true)
one_more s ss (suc n) =
    let x = signature (suc n) false in
    let y = signature (suc n) true in
    pair_sum _ _ _ _ _ _ _ _ _ (sum_append type_counts (if_among (s ∷ ss) x) (if_among (s ∷ ss) y))
    (sum_append type_counts (if_among (s ∷ []) x) (if_among (s ∷ []) y))
    (sum_append type_counts (if_among ss x) (if_among ss y))
    (both x (is_same x s) (is_among ss x)) (both y (is_same y s) (is_among ss y)) where
      both : (x : Signature) (b c : Bool) → types_count (one_if (b || c) x) ≤ types_count (one_if (b || false) x) +
          types_count (one_if c x)
      both x true c = one_of_two true c x
      both x false c = one_of_two false c x

abbrev in_range : Signatures → (first many : ℕ) → Signatures
in_range ss a n = flat_map (of_arguments ss) (range_with_len a n)

range_more : (s : Signature) (ss : Signatures) (a n : ℕ)
    → types_count (in_range (s ∷ ss) a n) ≤ types_count (in_range (s ∷ []) a n) + types_count (in_range ss a n)
range_more s ss a zero = omega arith
range_more s ss a (suc n) =
    pair_sum _ _ _ _ _ _ _ _ _ (sum_append type_counts (of_arguments (s ∷ ss) a) (in_range (s ∷ ss) (a + 1) n))
    (sum_append type_counts (of_arguments (s ∷ []) a) (in_range (s ∷ []) (a + 1) n))
    (sum_append type_counts (of_arguments ss a) (in_range ss (a + 1) n))
    (one_more s ss a) (range_more s ss (a + 1) n)

-- ---- one signature is listed alone, if its number of arguments is met

abbrev here : Bool → ℕ → ℕ
here b n = if b then 1 + n else 0

alone_at : (s : Signature) (n : ℕ) → types_count (of_arguments (s ∷ []) n) ≤ here (n == s.arguments) n
alone_at s zero = at (zero == s.arguments) s.result where
  at : (e r : Bool) → types_count (one_if ((e && same_result true r) || false) (signature 0 true)) ≤ here e 0
  at true true = omega arith
  at true false = omega arith
  at false r = omega arith
alone_at s (suc n) = at (suc n == s.arguments) s.result where
  at : (e r : Bool) → types_count (one_if ((e && same_result false r) || false) (signature (suc n) false)
      ++ one_if ((e && same_result true r) || false) (signature (suc n) true)) ≤ here e (suc n)
  at true true = omega arith
  at true false = omega arith
  at false r = omega arith

no_more : (m a b x : ℕ) → m ≡ a + b → a ≤ 0 → b ≤ x → m ≤ x
no_more m a b x e h l = omega (arith, e, h, l)

here_none : (n k : ℕ) (b : Bool) → (n == k) ≡ b → k < n → here b n ≤ 0
here_none n k true e h = let q : n ≡ k = eqb-true n k e in omega (arith, q, h)
here_none n k false e h = omega arith

trans_none : (a b : ℕ) → a ≤ b → b ≤ 0 → a ≤ 0
trans_none a b h l = omega (arith, h, l)

-- past that number it is not listed
past : (s : Signature) (a n : ℕ) → s.arguments < a → types_count (in_range (s ∷ []) a n) ≤ 0
past s a zero h = omega arith
past s a (suc n) h =
    no_more _ _ _ 0 (sum_append type_counts (of_arguments (s ∷ []) a) (in_range (s ∷ []) (a + 1) n))
    (trans_none _ _ (alone_at s a) (here_none a s.arguments (a == s.arguments) refl h))
    (past s (a + 1) n (later s.arguments a h)) where
      later : (k a : ℕ) → k < a → k < a + 1
      later k a h = omega (arith, h)

now_sum : (m a b k n : ℕ) → m ≡ a + b → a ≤ 1 + n → b ≤ 0 → n ≡ k → m ≤ 1 + k
now_sum m a b k n e h l q = omega (arith, e, h, l, q)

next_past : (a k : ℕ) → a ≡ k → k < a + 1
next_past a k e = omega (arith, e)

once_by : (s : Signature) (a n : ℕ) (b : Bool) → (a == s.arguments) ≡ b
    → types_count (in_range (s ∷ []) (a + 1) n) ≤ type_counts s
    → types_count (in_range (s ∷ []) a (suc n)) ≤ type_counts s
once_by s a n true e h =
    let q : a ≡ s.arguments = eqb-true a s.arguments e in
    now_sum _ _ _ s.arguments a (sum_append type_counts (of_arguments (s ∷ []) a) (in_range (s ∷ []) (a + 1) n))
    (subst (λ (b : Bool). types_count (of_arguments (s ∷ []) a) ≤ here b a) e (alone_at s a))
    (past s (a + 1) n (next_past a s.arguments q)) q
once_by s a n false e h = no_more _ _ _ _
    (sum_append type_counts (of_arguments (s ∷ []) a) (in_range (s ∷ []) (a + 1) n))
    (subst (λ (b : Bool). types_count (of_arguments (s ∷ []) a) ≤ here b a) e (alone_at s a)) h

-- so it is listed once
once : (s : Signature) (a n : ℕ) → types_count (in_range (s ∷ []) a n) ≤ type_counts s
once s a zero = none (type_counts s) where
  none : (k : ℕ) → 0 ≤ k
  none k = omega arith
once s a (suc n) = once_by s a n (a == s.arguments) refl (once s (a + 1) n)

more_once : (m a b x y : ℕ) → m ≤ a + b → a ≤ x → b ≤ y → m ≤ x + y
more_once m a b x y h l k = omega (arith, h, l, k)

none_listed : (n : ℕ) → types_count (of_arguments [] n) ≤ 0
none_listed zero = omega arith
none_listed (suc n) = omega arith

range_none : (a n : ℕ) → types_count (in_range [] a n) ≤ 0
range_none a zero = omega arith
range_none a (suc n) = no_more _ _ _ 0 (sum_append type_counts (of_arguments [] a) (in_range [] (a + 1) n))
    (none_listed a) (range_none (a + 1) n)

range_few : (ss : Signatures) (a n : ℕ) → types_count (in_range ss a n) ≤ types_count ss
range_few [] a n = range_none a n
range_few (s ∷ ss) a n = more_once _ _ _ (type_counts s) (types_count ss) (range_more s ss a n) (once s a n)
    (range_few ss a n)

pub listed_few : (ss : Signatures) → types_count (in_order ss) ≤ types_count ss
listed_few ss = range_few ss 0 (suc (most_arguments ss))
