-- Bytes that are copied one by one, from the first to the last.
use Rattle.std.proofs.Common.{◌≡◌, ⊎_elim, ℕ, suc, ◌+◌, ◌-◌, ◌<◌, ◌≤◌, ◌⊎◌, List, length, inl, inr, refl, sym, ap, ◌∙◌, subst, arith}
use Rattle.std.specs.Prelude.{slice_set}
use Rattle.std.proofs.lemmas.Bool.{cases_lt}
use Rattle.std.specs.List.{CopiedTo, SameBelow, SameFrom}
use Rattle.std.proofs.lemmas.List.{ext_get_or}
use Rattle.law_effect.specs.Bytes.{byte, copied_bytes}
use Rattle.law_effect.proofs.Bytes.{copied_length, copied_only, copied_moved}
use Rattle.wasm_engine.proofs.Clearing.{set_pasted}

-- one more of those that are left
copy_next : (left to from : ℕ) (m : List ℕ) → to < length m
    → copied_bytes (suc left) to from m ≡ copied_bytes left (to + 1) (from + 1) (slice_set m to (byte from m))
unfolding copied_bytes
copy_next left to from m h = ap (copied_bytes left (to + 1) (from + 1)) (sym (set_pasted m to (byte from m) h))

pub copy_more : (count done to from : ℕ) (m all : List ℕ) → done < count → to + done < length m
    → copied_bytes (count - done) (to + done) (from + done) m ≡ all
    → copied_bytes (count - (done + 1)) (to + (done + 1)) (from + (done + 1))
    (slice_set m (to + done) (byte (from + done) m)) ≡ all
copy_more count done to from m all below within e =
    let left : count - done ≡ suc (count - (done + 1)) = omega arith in
    let t : to + done + 1 ≡ to + (done + 1) = omega arith in
    let f : from + done + 1 ≡ from + (done + 1) = omega arith in
    let next = slice_set m (to + done) (byte (from + done) m) in
    sym (ap (λ i. copied_bytes (count - (done + 1)) i (from + done + 1) next) t
    ∙ ap (λ i. copied_bytes (count - (done + 1)) (to + (done + 1)) i next) f)
    ∙ sym (copy_next (count - (done + 1)) (to + done) (from + done) m within)
    ∙ (ap (λ (n : ℕ). copied_bytes n (to + done) (from + done) m) (sym left) ∙ e)

copy_none : (to from : ℕ) (m : List ℕ) → copied_bytes 0 to from m ≡ m
unfolding copied_bytes
copy_none to from m = refl

pub copy_done : (count done to from : ℕ) (m all : List ℕ) → count ≤ done
    → copied_bytes (count - done) (to + done) (from + done) m ≡ all → m ≡ all
copy_done count done to from m all h e =
    let none : count - done ≡ 0 = omega arith in
    sym (copy_none (to + done) (from + done) m)
    ∙ (ap (λ (n : ℕ). copied_bytes n (to + done) (from + done) m) (sym none) ∙ e)

-- all at once, if no byte is read that was written before
copied_at_once : (k to from : ℕ) (m new : List ℕ) → to + k ≤ length m → (to ≤ from) ⊎ (from + k ≤ to)
    → length new ≡ length m → CopiedTo m new from to k → SameBelow m new to → SameFrom m new (to + k)
    → new ≡ copied_bytes k to from m
copied_at_once k to from m new fits apart long moved below above =
    ext_get_or 0 new (copied_bytes k to from m) (long ∙ sym (copied_length k to from m fits)) (λ i less. same i)
  where
    inside : (i : ℕ) → to ≤ i → i < to + k → byte i new ≡ byte i (copied_bytes k to from m)
    inside i at_least less =
        let place : to + (i - to) ≡ i = omega arith in
        moved i 0 at_least less ∙ sym (copied_moved k to from m fits apart (i - to) (omega arith))
        ∙ ap (λ (j : ℕ). byte j (copied_bytes k to from m)) place

    from_front : (i : ℕ) → to ≤ i → byte i new ≡ byte i (copied_bytes k to from m)
    from_front i at_least =
        ⊎_elim (λ (less : i < to + k). inside i at_least less)
        (λ (past : to + k ≤ i). above i 0 past ∙ sym (copied_only k to from m fits i (inr past)))
        (cases_lt i (to + k))

    same : (i : ℕ) → byte i new ≡ byte i (copied_bytes k to from m)
    same i = ⊎_elim (λ (less : i < to). below i 0 less ∙ sym (copied_only k to from m fits i (inl less)))
        (λ (past : to ≤ i). from_front i past) (cases_lt i to)

-- the same, if the count is that of a range
pub copied_in_bulk : (k n to from : ℕ) (m new : List ℕ) → n ≡ k → to + k ≤ length m → (to ≤ from) ⊎ (from + k ≤ to)
    → length new ≡ length m → CopiedTo m new from to n → SameBelow m new to → SameFrom m new (to + n)
    → new ≡ copied_bytes k to from m
copied_in_bulk k n to from m new same fits apart long moved below above =
    copied_at_once k to from m new fits apart long (subst (λ (j : ℕ). CopiedTo m new from to j) same moved) below
    (subst (λ (j : ℕ). SameFrom m new (to + j)) same above)
