-- Pieces of a line.
use Rattle.std.proofs.Common.{◌≡◌, ℕ, ◌+◌, ◌-◌, List, drop, length, min, take, ap, ◌∙◌, arith, length-drop}
use Rattle.std.proofs.lemmas.List.{take_min}

pub cut : (line : List ℕ) (first last : ℕ) → last ≡ min (length line) (first + 100)
    → take (last - first) (drop first line) ≡ take 100 (drop first line)
cut line first last e =
    let d : length (drop first line) ≡ length line - first = length-drop first line in
    let n : last - first ≡ min 100 (length (drop first line)) = omega (arith, e, d) in
    ap (λ (k : ℕ). take k (drop first line)) n ∙ take_min 100 (drop first line)
