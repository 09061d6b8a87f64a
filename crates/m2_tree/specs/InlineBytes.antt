-- The 14 bytes in which a short list is kept.
use Rattle.std.specs.Prelude.{◌≡◌, ◌≤◌, ℕ, ◌-◌, List, ◌++◌, length, take, replicate}
use Rattle.std.proofs.Common.{ap, arith}
use Rattle.std.proofs.lemmas.List.{length-take-le}
use Rattle.m2_tree.specs.declared.bytes.Inline.TheInside.{Inside}

-- the list, and zeros behind it
abbrev pub fill_place : List ℕ → List ℕ
fill_place list = list ++ replicate (14 - length list) 0

-- Its length, and the list with its zeros, are all that is kept.
pub kept_whole : (n : Inside)
    → (n.len ≤ 14) × (length n.bytes ≡ 14) × (n.bytes ≡ fill_place (take n.len n.bytes))
    → record { len = length (take n.len n.bytes); bytes = fill_place (take n.len n.bytes) } ≡ n
kept_whole n h =
    let fits : n.len ≤ length n.bytes = omega (arith, h.1) in
    let e = length-take-le n.len n.bytes fits in
    let p : (length (take n.len n.bytes), fill_place (take n.len n.bytes)) ≡ (n.len, n.bytes) =
    cc (h.2, e) in
    ap (λ (p : ℕ × List ℕ). record { len = p.0; bytes = p.1 }) p
