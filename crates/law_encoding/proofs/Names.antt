-- Names that link exports have an encoding, and a short one.
use Rattle.std.proofs.Common.{◌≡◌, ℕ, ◌+◌, ◌≤◌, ◌<◌, Bool, true, ◌&&◌, nat_lt, List, [], ◌∷◌, ◌++◌, length, refl, arith}
use Rattle.std.specs.List.{list_all}
use Rattle.std.specs.Str.{is_utf8}
use Rattle.std.proofs.lemmas.Bool.{and_parts, lt-ltb, ltb-true}
use Rattle.std.proofs.lemmas.List.{length-append}
use Rattle.std.specs.Str.{IsAscii}
use Rattle.std.proofs.lemmas.Str.Ascii.{IsAscii-nil, IsAscii-cons}
use Rattle.std.proofs.lemmas.Str.{IsUtf8-append, IsUtf8-from_ascii, IsUtf8-from_is_utf8, is_utf8-from_IsUtf8}
use Rattle.wasm_code.specs.Number.{unsigned}
use Rattle.wasm_code.specs.Parts.{name}
use Rattle.law_encoding.specs.Fits.{max_bytes, few_entries}
use Rattle.law_encoding.proofs.CodeFits.{both_true}
use Rattle.law_encoding.proofs.EncodedBytes.{unsigned_short}

all_both : (f : ℕ → Bool) (xs ys : List ℕ) → list_all f xs ≡ true → list_all f ys ≡ true → list_all f (xs ++ ys) ≡ true
all_both f [] ys e h = h
all_both f (x ∷ xs) ys e h = let both = and_parts (f x) (list_all f xs) e in
    both_true _ _ both.0 (all_both f xs ys both.1 h)

few_both : (m a b : ℕ) → m ≡ a + b → a ≤ 16 → b ≤ few_entries → m < max_bytes
few_both m a b e h l = omega (arith, e, h, l)

-- a name with a prefix
pub name_fits : (xs ys : List ℕ) → name.fits xs ≡ true → length xs ≤ 16 → name.fits ys ≡ true → length ys ≤ few_entries
    → name.fits (xs ++ ys) ≡ true
unfolding name
name_fits xs ys e h f l =
    let first = and_parts (list_all (λ b. nat_lt b 256) xs && nat_lt (length xs) max_bytes) (is_utf8 xs) e in
    let second = and_parts (list_all (λ b. nat_lt b 256) ys && nat_lt (length ys) max_bytes) (is_utf8 ys) f in
    let bytes = and_parts (list_all (λ b. nat_lt b 256) xs) (nat_lt (length xs) max_bytes) first.0 in
    let more = and_parts (list_all (λ b. nat_lt b 256) ys) (nat_lt (length ys) max_bytes) second.0 in
    both_true _ _ (both_true _ _ (all_both (λ b. nat_lt b 256) xs ys bytes.0 more.0)
    (lt-ltb _ max_bytes (few_both _ (length xs) (length ys) (length-append xs ys) h l)))
    (is_utf8-from_IsUtf8 (xs ++ ys) (IsUtf8-append xs ys (IsUtf8-from_is_utf8 xs first.1)
    (IsUtf8-from_is_utf8 ys second.1)))

name_sum : (m a n : ℕ) → m ≡ a + n → a ≤ 5 → m ≤ 5 + n
name_sum m a n e h = omega (arith, e, h)

pub name_short : (xs : List ℕ) → name.fits xs ≡ true → length (name.encoding xs) ≤ 5 + length xs
unfolding name
name_short xs e =
    let first = and_parts (list_all (λ b. nat_lt b 256) xs && nat_lt (length xs) max_bytes) (is_utf8 xs) e in
    let bytes = and_parts (list_all (λ b. nat_lt b 256) xs) (nat_lt (length xs) max_bytes) first.0 in
    name_sum _ (length (unsigned.encoding (length xs))) (length xs) (length-append (unsigned.encoding (length xs)) xs)
    (unsigned_short (length xs) bytes.1)

-- ---- names of ASCII characters

all_ascii : (xs : List ℕ) → list_all (λ b. nat_lt b 128) xs ≡ true → IsAscii xs
all_ascii [] e = IsAscii-nil
all_ascii (x ∷ xs) e = let both = and_parts (nat_lt x 128) (list_all (λ b. nat_lt b 128) xs) e in
    IsAscii-cons x xs (ltb-true x 128 both.0) (all_ascii xs both.1)

below_wider : (n : ℕ) → n < 128 → n < 256
below_wider n h = omega (arith, h)

all_bytes : (xs : List ℕ) → list_all (λ b. nat_lt b 128) xs ≡ true → list_all (λ b. nat_lt b 256) xs ≡ true
all_bytes [] e = refl
all_bytes (x ∷ xs) e = let both = and_parts (nat_lt x 128) (list_all (λ b. nat_lt b 128) xs) e in
    both_true _ _ (lt-ltb x 256 (below_wider x (ltb-true x 128 both.0))) (all_bytes xs both.1)

pub ascii_fits : (xs : List ℕ) → list_all (λ b. nat_lt b 128) xs ≡ true → length xs < max_bytes → name.fits xs ≡ true
unfolding name
ascii_fits xs e h = both_true _ _ (both_true _ _ (all_bytes xs e) (lt-ltb _ max_bytes h))
    (is_utf8-from_IsUtf8 xs (IsUtf8-from_ascii xs (all_ascii xs e)))
