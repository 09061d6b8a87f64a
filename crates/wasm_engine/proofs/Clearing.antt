-- Bytes that are set to 0 one by one.
use Rattle.std.proofs.Common.{◌≡◌, ℕ, zero, suc, ◌+◌, ◌-◌, ◌<◌, ◌≤◌, List, [], ◌∷◌, ◌++◌, take, drop, length, refl, sym, ap, ◌∙◌, arith}
use Rattle.std.specs.Prelude.{slice_set}
use Rattle.wasm_tree.specs.Machine.{paste_items}
use Rattle.law_effect.specs.Bytes.{cleared_bytes}

pub set_pasted : (m : List ℕ) (k x : ℕ) → k < length m → slice_set m k x ≡ paste_items m k (x ∷ [])
set_pasted [] k x h = absurd (omega arith)
set_pasted (y ∷ m) zero x h = refl
set_pasted (y ∷ m) (suc k) x h = ap (λ (l : List ℕ). y ∷ l) (set_pasted m k x (omega arith))
    ∙ ap (λ (j : ℕ). y ∷ (take k m ++ x ∷ [] ++ drop j (y ∷ m))) more
  where
    more : suc (k + 1) ≡ suc k + 1
    more = omega arith

-- one more of those that are left
clear_next : (left k : ℕ) (m : List ℕ) → k < length m
    → cleared_bytes (suc left) k m ≡ cleared_bytes left (k + 1) (slice_set m k 0)
unfolding cleared_bytes
clear_next left k m h = ap (cleared_bytes left (k + 1)) (sym (set_pasted m k 0 h))

pub clear_more : (whole k : ℕ) (m all : List ℕ) → k < whole → k < length m → cleared_bytes (whole - k) k m ≡ all
    → cleared_bytes (whole - (k + 1)) (k + 1) (slice_set m k 0) ≡ all
clear_more whole k m all below within e =
    let left : whole - k ≡ suc (whole - (k + 1)) = omega arith in
    sym (clear_next (whole - (k + 1)) k m within) ∙ (ap (λ (n : ℕ). cleared_bytes n k m) (sym left) ∙ e)

clear_none : (k : ℕ) (m : List ℕ) → cleared_bytes 0 k m ≡ m
unfolding cleared_bytes
clear_none k m = refl

pub clear_done : (whole k : ℕ) (m all : List ℕ) → whole ≤ k → cleared_bytes (whole - k) k m ≡ all → m ≡ all
clear_done whole k m all h e =
    let none : whole - k ≡ 0 = omega arith in
    sym (clear_none k m) ∙ (ap (λ (n : ℕ). cleared_bytes n k m) (sym none) ∙ e)
