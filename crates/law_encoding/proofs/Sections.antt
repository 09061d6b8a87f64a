-- A section has an encoding if its entries have, and take few bytes.
use Rattle.std.proofs.Common.{◌≡◌, ℕ, suc, ◌+◌, ◌≤◌, ◌<◌, true, List, [], ◌∷◌, length, refl, arith}
use Rattle.std.specs.List.{list_all, flat_map}
use Rattle.std.proofs.lemmas.Bool.{and_parts, lt-ltb}
use Rattle.std.proofs.lemmas.List.{length-append}
use Rattle.wasm_tree.specs.Format.{Format}
use Rattle.wasm_code.specs.Number.{unsigned}
use Rattle.wasm_code.specs.Parts.{section}
use Rattle.law_encoding.specs.Sizes.{sum_of}
use Rattle.law_encoding.specs.Fits.{max_bytes}
use Rattle.law_encoding.proofs.Sums.{length_below}
use Rattle.law_encoding.proofs.CodeFits.{both_true}
use Rattle.law_encoding.proofs.EncodedBytes.{unsigned_short}

nothing_short : 0 ≤ 0
nothing_short = omega arith

one_more : (m a b x s : ℕ) → m ≡ a + b → a ≤ x → b ≤ s → m ≤ x + s
one_more m a b x s e h l = omega (arith, e, h, l)

few_entries : (n s : ℕ) → n ≤ s → 5 + s < max_bytes → n < max_bytes
few_entries n s h l = omega (arith, h, l)

few_in_all : (m u b s : ℕ) → m ≡ u + b → u ≤ 5 → b ≤ s → 5 + s < max_bytes → m < max_bytes
few_in_all m u b s e h l k = omega (arith, e, h, l, k)

some : (n : ℕ) → 0 < suc n
some n = omega arith

module _ {A : Type 0} (number : ℕ) (p : Format A) where
  -- entries that take at most this number of bytes
  pub entries_fit : (xs : List A) (n : ℕ) → list_all p.fits xs ≡ true → length xs ≤ n
      → length (flat_map p.encoding xs) ≤ n → 5 + n < max_bytes → (section number p).fits xs ≡ true
  entries_fit [] n e h l k = refl
  entries_fit (x ∷ xs) n e h l k =
      let few = lt-ltb (length (x ∷ xs)) max_bytes (few_entries (length (x ∷ xs)) n h k) in
      both_true _ _ (both_true _ _ (lt-ltb 0 (length (x ∷ xs)) (some (length xs))) (both_true _ _ few e))
      (lt-ltb _ max_bytes (few_in_all _ (length (unsigned.encoding (length (x ∷ xs)))) _ n
      (length-append (unsigned.encoding (length (x ∷ xs))) (flat_map p.encoding (x ∷ xs)))
      (unsigned_short (length (x ∷ xs)) few) l k))

  module _ (size : A → ℕ) (each : (x : A) → 1 ≤ size x)
      (short : (x : A) → p.fits x ≡ true → length (p.encoding x) ≤ size x) where
    pub all_short : (xs : List A) → list_all p.fits xs ≡ true → length (flat_map p.encoding xs) ≤ sum_of size xs
    all_short [] e = nothing_short
    all_short (x ∷ xs) e =
        let both = and_parts (p.fits x) (list_all p.fits xs) e in
        one_more _ (length (p.encoding x)) _ (size x) _ (length-append (p.encoding x) (flat_map p.encoding xs))
        (short x both.0) (all_short xs both.1)

    pub section_fits : (xs : List A) → list_all p.fits xs ≡ true → 5 + sum_of size xs < max_bytes
        → (section number p).fits xs ≡ true
    section_fits xs e h = entries_fit xs (sum_of size xs) e (length_below size each xs) (all_short xs e) h
