-- Numbers in groups, as a loop writes them.
use Rattle.std.proofs.Common.{◌≡◌, ℕ, suc, ◌+◌, ◌-◌, ◌/◌, ◌%◌, ◌<◌, ◌≤◌, List, [], ◌∷◌, ◌++◌, refl, sym, ap, ◌∙◌, append_assoc, arith}
use Rattle.std.proofs.lemmas.List.{append-nil}
use Rattle.std.proofs.lemmas.Bool.{lt-ltb, le-ltb}
use Rattle.std.proofs.lemmas.Bool.Decides.{nat_tests}
use Rattle.wasm_code.specs.Number.{groups, signed_groups, shift_group}

one_less : (k most : ℕ) → k < most → most - k ≡ suc (most - (k + 1))
one_less k most h = omega arith

pub groups_last : (most k n : ℕ) → k < most → n < 128 → groups (most - k) n ≡ n ∷ []
unfolding groups
groups_last most k n h small = rw (one_less k most h, lt-ltb n 128 small) refl

pub groups_more : (most k n : ℕ) → k < most → 128 ≤ n
    → groups (most - k) n ≡ (128 + n % 128) ∷ groups (most - (k + 1)) (n / 128)
unfolding groups
groups_more most k n h large = rw (one_less k most h, le-ltb n 128 large) refl

pub groups_none : (most k n : ℕ) → most ≤ k → groups (most - k) n ≡ []
unfolding groups
groups_none most k n h = let none : most - k ≡ 0 = omega arith in rw none refl

pub signed_small : (most k top n : ℕ) → k < most → n < 64 → signed_groups (most - k) top n ≡ n ∷ []
unfolding signed_groups
signed_small most k top n h small = rw (one_less k most h, lt-ltb n 64 small) refl

pub signed_great : (most k top n : ℕ) → k < most → 64 ≤ n → top - 64 < n
    → signed_groups (most - k) top n ≡ (n + 127 - top) ∷ []
unfolding signed_groups
signed_great most k top n h large great = rw (one_less k most h, le-ltb n 64 large, lt-ltb (top - 64) n great) refl

pub signed_more : (most k top n : ℕ) → k < most → 64 ≤ n → n ≤ top - 64
    → signed_groups (most - k) top n ≡ (128 + n % 128) ∷ signed_groups (most - (k + 1)) top (shift_group top n)
unfolding signed_groups
signed_more most k top n h large low = rw (one_less k most h, le-ltb n 64 large, le-ltb (top - 64) n low) refl

pub signed_none : (most k top n : ℕ) → most ≤ k → signed_groups (most - k) top n ≡ []
unfolding signed_groups
signed_none most k top n h = let none : most - k ≡ 0 = omega arith in rw none refl

-- a last piece was appended
pub ends : (new out old last piece all : List ℕ) → new ≡ out ++ last → piece ≡ last → out ++ piece ≡ old ++ all
    → new ≡ old ++ all
ends new out old last piece all h e so_far = h ∙ ap (λ (p : List ℕ). out ++ p) (sym e) ∙ so_far

-- one more was appended
pub goes_on : (new out old : List ℕ) (one : ℕ) (piece rest all : List ℕ) → new ≡ out ++ one ∷ [] → piece ≡ one ∷ rest
    → out ++ piece ≡ old ++ all → new ++ rest ≡ old ++ all
goes_on new out old one piece rest all h e so_far =
    ap (λ (p : List ℕ). p ++ rest) h ∙ append_assoc out (one ∷ []) rest ∙ ap (λ (p : List ℕ). out ++ p) (sym e) ∙ so_far

-- nothing is left to append
pub is_whole : (out old piece all : List ℕ) → piece ≡ [] → out ++ piece ≡ old ++ all → out ≡ old ++ all
is_whole out old piece all e so_far = sym (append-nil out) ∙ ap (λ (p : List ℕ). out ++ p) (sym e) ∙ so_far

pub shifted_within : (top n : ℕ) → n ≤ top → shift_group top n ≤ top
shifted_within top n h = grind (arith, nat_tests)
