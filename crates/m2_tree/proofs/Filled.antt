-- The zeros behind a list give way to its bytes, one after another.
use Rattle.std.proofs.Common.{◌≡◌, ◌≤◌, ◌<◌, ℕ, suc, ◌+◌, ◌-◌, List, [], ◌∷◌, ◌++◌, length, take, replicate, get_or, set, ap, ◌∙◌, sym, refl, arith, append_assoc}
use Rattle.std.proofs.lemmas.List.{set_at, take_more, length-take-le, take_all, take_at}
use Rattle.m2_tree.specs.InlineBytes.{fill_place}

pub one_more : (t : List ℕ) (i : ℕ) → i < length t → length t ≤ 14
    → set (take i t ++ replicate (14 - i) 0) i (get_or t i 0) ≡ take (i + 1) t ++ replicate (14 - (i + 1)) 0
one_more t i h k =
    let n : 14 - i ≡ suc (14 - (i + 1)) = omega arith in
    let le : i ≤ length t = omega arith in
    let e = length-take-le i t le in
    ap (λ m. set (take i t ++ replicate m 0) i (get_or t i 0)) n
    ∙ set_at (take i t) 0 (replicate (14 - (i + 1)) 0) (get_or t i 0) i e
    ∙ sym (ap (λ xs. xs ++ replicate (14 - (i + 1)) 0) (take_more t i 0 h)
    ∙ append_assoc (take i t) (get_or t i 0 ∷ []) (replicate (14 - (i + 1)) 0))

pub whole : (t bytes : List ℕ) (i : ℕ) → i ≡ length t → bytes ≡ take i t ++ replicate (14 - i) 0
    → bytes ≡ fill_place (take (length t) bytes)
whole t bytes i same h =
    let zeros : List ℕ = replicate (14 - length t) 0 in
    let all : take i t ≡ t = take_all i t (omega arith) in
    let spelled : bytes ≡ t ++ zeros = h ∙ ap (λ (k : ℕ). take i t ++ replicate (14 - k) 0) same
    ∙ ap (λ (xs : List ℕ). xs ++ zeros) all in
    let front : take (length t) bytes ≡ t = ap (take (length t)) spelled ∙ take_at t zeros (length t) refl in
    spelled ∙ ap fill_place (sym front)
