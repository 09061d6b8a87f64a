-- How long the text of an input is.
use Rattle.std.proofs.Common.{◌≡◌, ◌<◌, ◌≤◌, ℕ, zero, suc, ◌+◌, ◌-◌, ◌*◌, ◌/◌, ◌%◌, ◌^◌, min, Bool, true, false, List, [], ◌∷◌, ◌++◌, length, take, drop, refl, sym, ap, subst, ◌∙◌, arith, inl, inr, length-append, length-drop, codes, decimal}
use Rattle.std.proofs.Math.Nat.{lt-div-mul-add, div-mul-le_self}
use Rattle.std.proofs.lemmas.List.{length-take}
use Rattle.std.proofs.lemmas.Bool.{cases_Bool}
use Rattle.std.proofs.lemmas.Fmt.{length-decimal-le}
use Rattle.std.proofs.lemmas.List.Concat.{flat_map-cons}
use Rattle.std.proofs.lemmas.Grind.{common_steps}
use Rattle.input_module.specs.Spelling.{is_plain, spelling, spelled}
use Rattle.input_module.specs.Text.{part, arm, arms, parts_of, front, back, text_of}
use Rattle.input_module.proofs.Reading.{as_plain, as_pair}

-- from one to two characters a byte
record Spells (n : ℕ) (s : List ℕ) : Type 0 where
  least : n ≤ length s
  most : length s ≤ 2 * n

spells_byte : (b : ℕ) → Spells 1 (spelling b)
spells_byte b = elim (cases_Bool (is_plain b)) [
  | inl t ↦ subst (λ (p : List ℕ). Spells 1 p) (sym (as_plain b t))
      (record { least = omega arith; most = omega arith })
  | inr f ↦ subst (λ (p : List ℕ). Spells 1 p)
      (sym (as_pair b f)) (record { least = omega arith; most = omega arith })
]

spells : (bytes : List ℕ) → Spells (length bytes) (spelled bytes)
spells [] = record { least = omega arith; most = omega arith }
spells (b ∷ bs) =
    let one = spells_byte b in
    let more = spells bs in
    let e : length (spelling b ++ spelled bs) ≡ length (spelling b) + length (spelled bs) =
    length-append (spelling b) (spelled bs) in
    subst (λ (p : List ℕ). Spells (length (b ∷ bs)) p) (sym (flat_map-cons spelling b bs))
    (record { least = omega (arith, e, one.least, more.least); most = omega (arith, e, one.most, more.most) })

-- ---- the arms

-- how many bytes the words of an arm take at most, with its number
abbrev words : ℕ
words = 40

five_length : (a b c d e : List ℕ) → length (a ++ (b ++ (c ++ (d ++ e))))
    ≡ length a + (length b + (length c + (length d + length e)))
five_length a b c d e =
    length-append a (b ++ (c ++ (d ++ e)))
    ∙ ap (λ n. length a + n) (length-append b (c ++ (d ++ e))
    ∙ ap (λ n. length b + n) (length-append c (d ++ e) ∙ ap (λ n. length c + n) (length-append d e)))

part_length : (bytes : List ℕ) (n : ℕ) → length (part bytes n) ≡ min 4096 (length bytes - n * 4096)
part_length bytes n = length-take 4096 (drop (n * 4096) bytes) ∙ ap (min 4096) (length-drop (n * 4096) bytes)

arm_length : (bytes : List ℕ) (n : ℕ) → length (arm bytes n)
    ≡ 17 + (length (decimal n) + length (spelled (part bytes n)))
arm_length bytes n =
    let e = five_length (codes "  | ") (decimal n) (codes ": part := \"") (spelled (part bytes n)) (codes "\"\n") in
    e ∙ omega arith

arm_least : (bytes : List ℕ) (n : ℕ) → length (part bytes n) ≤ length (arm bytes n)
arm_least bytes n =
    let e = arm_length bytes n in
    let s = spells (part bytes n) in
    omega (arith, e, s.least)

arm_most : (bytes : List ℕ) (n : ℕ) → n < 2 ^ 52 → length (arm bytes n) ≤ 2 * length (part bytes n) + words
arm_most bytes n l =
    let e = arm_length bytes n in
    let d : length (decimal n) ≤ 20 = length-decimal-le 20 n (omega arith) (omega (arith, l)) (omega (arith, l)) in
    let s = spells (part bytes n) in
    omega (arith, e, d, s.most)

arms_least : (bytes : List ℕ) (n : ℕ) → min (n * 4096) (length bytes) ≤ length (arms bytes n)
unfolding arms
arms_least bytes zero = omega arith
arms_least bytes (suc n) =
    let before = arms_least bytes n in
    let here = arm_least bytes n in
    let p = part_length bytes n in
    let e = length-append (arms bytes n) (arm bytes n) in
    omega (arith, e, p, before, here)

arms_most : (bytes : List ℕ) (n : ℕ) → n < 2 ^ 52
    → length (arms bytes n) ≤ 2 * min (n * 4096) (length bytes) + n * words
unfolding arms
arms_most bytes zero l = omega arith
arms_most bytes (suc n) l =
    let before = arms_most bytes n (omega (arith, l)) in
    let here = arm_most bytes n (omega (arith, l)) in
    let p = part_length bytes n in
    let e = length-append (arms bytes n) (arm bytes n) in
    omega (arith, e, p, before, here)

-- ---- the whole

three_length : (a b c : List ℕ) → length (a ++ (b ++ c)) ≡ length a + (length b + length c)
three_length a b c = length-append a (b ++ c) ∙ ap (λ n. length a + n) (length-append b c)

front_length : (bytes : List ℕ) → length bytes < 2 ^ 64 → length (front bytes) ≤ 300
front_length bytes l =
    let e = three_length
    (codes "IMPLEMENTATION MODULE InputBytes;\n\nPROCEDURE Size(): CARDINAL;\nBEGIN\n  RETURN ")
    (decimal (length bytes))
    (codes "\nEND Size;\n\nPROCEDURE Take(number: CARDINAL; VAR part: Part);\nBEGIN\n  CASE number OF\n") in
    let d : length (decimal (length bytes)) ≤ 20 =
    length-decimal-le 20 (length bytes) (omega arith) (omega (arith, l)) l in
    omega (arith, e, d)

whole_length : (bytes : List ℕ) → length (text_of bytes)
    ≡ length (front bytes) + (length (arms bytes (parts_of bytes)) + length back)
unfolding text_of
whole_length bytes = three_length (front bytes) (arms bytes (parts_of bytes)) back

back_length : length back ≤ 100
back_length = omega arith

all_parts : (n : ℕ) → min ((n / 4096 + 1) * 4096) n ≡ n
all_parts n = let l : n < n / 4096 * 4096 + 4096 = lt-div-mul-add (omega arith) in omega (arith, l)

pub no_shorter : (bytes : List ℕ) → length bytes ≤ length (text_of bytes)
no_shorter bytes =
    let e = whole_length bytes in
    let h = arms_least bytes (parts_of bytes) in
    let a = all_parts (length bytes) in
    omega (arith, e, h, a)

pub fits_always : (bytes : List ℕ) → length bytes ≤ 500000 → length (text_of bytes) ≤ 1048576
fits_always bytes l =
    let m : length bytes / 4096 * 4096 ≤ length bytes = div-mul-le_self (length bytes) 4096 in
    let e = whole_length bytes in
    let h = arms_most bytes (parts_of bytes) (omega (arith, l, m)) in
    let a = all_parts (length bytes) in
    let f = front_length bytes (omega (arith, l)) in
    let b = back_length in
    omega (arith, l, e, h, a, f, b, m)
