-- Lines of bytes without an end of a line among them.
use Rattle.std.proofs.Common.{◌≡◌, ◌<◌, ℕ, Bool, true, false, not, ◌&&◌, ◌==◌, List, [], ◌∷◌, ◌++◌, refl, ap, ◌∙◌, arith}
use Rattle.std.specs.List.{list_all}
use Rattle.std.proofs.lemmas.Bool.{and_parts, ne_eqb}

abbrev pub in_line : ℕ → Bool
in_line b = not (b == 10)

pub above_in_line : (b : ℕ) → 10 < b → in_line b ≡ true
above_in_line b h = ap not (ne_eqb b 10 (λ e. omega (arith, e, h)))

-- what passes a test that the end of a line fails
test_in_line : (p : ℕ → Bool) (b : ℕ) → p 10 ≡ false → p b ≡ true → in_line b ≡ true
test_in_line p b fails h =
    ap not (ne_eqb b 10 (λ e. (let same : p b ≡ p 10 = ap p e in cc)))

pub and_both : (a b : Bool) → a ≡ true → b ≡ true → (a && b) ≡ true
and_both a b h k = ap (λ v. v && b) h ∙ k

pub tests_in_line : (p : ℕ → Bool) (bs : List ℕ) → p 10 ≡ false → list_all p bs ≡ true
    → list_all in_line bs ≡ true
tests_in_line p [] fails h = refl
tests_in_line p (b ∷ bs) fails h =
    let a = and_parts (p b) (list_all p bs) h in
    and_both (in_line b) (list_all in_line bs) (test_in_line p b fails a.0)
    (tests_in_line p bs fails a.1)

pub joined_in_line : (p : ℕ → Bool) (bs cs : List ℕ) → list_all p bs ≡ true
    → list_all p cs ≡ true → list_all p (bs ++ cs) ≡ true
joined_in_line p [] cs h k = k
joined_in_line p (b ∷ bs) cs h k =
    let a = and_parts (p b) (list_all p bs) h in
    and_both (p b) (list_all p (bs ++ cs)) a.0 (joined_in_line p bs cs a.1 k)

ends_no_line : (b : ℕ) → b ≡ 10 → in_line b ≡ true → ⊥
ends_no_line b e h = let f : in_line b ≡ false = ap in_line e in cc

-- two lines in front of anything are cut at one place
pub same_line : (x y r s : List ℕ) → list_all in_line x ≡ true → list_all in_line y ≡ true
    → x ++ 10 ∷ r ≡ y ++ 10 ∷ s → (x ≡ y) × (r ≡ s)
same_line [] [] r s h k e = (refl, cc)
same_line [] (b ∷ y) r s h k e =
    let first : b ≡ 10 = cc in
    absurd (ends_no_line b first (and_parts (in_line b) (list_all in_line y) k).0)
same_line (a ∷ x) [] r s h k e =
    let first : a ≡ 10 = cc in
    absurd (ends_no_line a first (and_parts (in_line a) (list_all in_line x) h).0)
same_line (a ∷ x) (b ∷ y) r s h k e =
    let first : a ≡ b = cc in
    let rest : x ++ 10 ∷ r ≡ y ++ 10 ∷ s = cc in
    let xs = (and_parts (in_line a) (list_all in_line x) h).1 in
    let ys = (and_parts (in_line b) (list_all in_line y) k).1 in
    let i = same_line x y r s xs ys rest in
    (cc (i.0), i.1)
