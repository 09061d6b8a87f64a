-- What is read off the characters of bytes, and which characters these are.
use Rattle.std.proofs.Common.{◌≡◌, ◌<◌, ◌≤◌, ◌≢◌, ℕ, ◌+◌, ◌-◌, ◌*◌, ◌/◌, ◌%◌, ◌^◌, Bool, true, false, not, ◌&&◌, ◌==◌, List, [], ◌∷◌, ◌++◌, refl, sym, ap, subst, ◌∙◌, arith, inl, inr, leb}
use Rattle.std.specs.List.{All, flat_map}
use Rattle.std.proofs.Math.Nat.{mod-lt}
use Rattle.std.proofs.lemmas.Grind.{common_steps}
use Rattle.std.proofs.lemmas.Bool.{cases_Bool, leb-false, and_parts, not-true, eqb-false, leb-true}
use Rattle.std.proofs.lemmas.Bool.Decides.{leb_tells}
use Rattle.std.proofs.lemmas.List.Concat.{flat_map-cons}
use Rattle.std.proofs.lemmas.List.Elements.{All-append, All-cons, All-head, All-tail}
use Rattle.std.proofs.lemmas.Nat.{div-add-mod'}
use Rattle.input_module.specs.Spelling.{is_plain, spelling, spelled, paired, read_off, IsHeld}

plain_ahead : (b : ℕ) (s : List ℕ) → leb 123 b ≡ false → read_off (b ∷ s) ≡ b ∷ read_off s
unfolding read_off
plain_ahead b [] low = refl
plain_ahead b (d ∷ rest) low = rw low refl

pair_ahead : (c d : ℕ) (s : List ℕ) → leb 123 c ≡ true → read_off (c ∷ d ∷ s) ≡ paired c d ∷ read_off s
unfolding read_off
pair_ahead c d s high = rw high refl

pair_is : (b : ℕ) → paired (123 + b / 64) (48 + b % 64) ≡ b
pair_is b = let e : b / 64 * 64 + b % 64 ≡ b = div-add-mod' b 64 in omega (arith, e)

pub as_plain : (b : ℕ) → is_plain b ≡ true → spelling b ≡ b ∷ []
unfolding spelling
as_plain b t = rw t refl

pub as_pair : (b : ℕ) → is_plain b ≡ false → spelling b ≡ (123 + b / 64) ∷ (48 + b % 64) ∷ []
unfolding spelling
as_pair b f = rw f refl

plain_low : (b : ℕ) → is_plain b ≡ true → leb 123 b ≡ false
plain_low b t = grind (arith, common_steps, leb_tells)

begins_pair : (n : ℕ) → leb 123 (123 + n) ≡ true
begins_pair n = grind (arith, common_steps, leb_tells)

plain_step : (b : ℕ) (s bs : List ℕ) → is_plain b ≡ true → read_off s ≡ bs → read_off (spelling b ++ s) ≡ b ∷ bs
plain_step b s bs t e = subst (λ (p : List ℕ). read_off (p ++ s) ≡ b ∷ bs) (sym (as_plain b t))
    (plain_ahead b s (plain_low b t) ∙ ap (λ r. b ∷ r) e)

pair_step_is : (b : ℕ) (s bs : List ℕ) → is_plain b ≡ false → read_off s ≡ bs → read_off (spelling b ++ s) ≡ b ∷ bs
pair_step_is b s bs f e = subst (λ (p : List ℕ). read_off (p ++ s) ≡ b ∷ bs) (sym (as_pair b f))
    (pair_ahead (123 + b / 64) (48 + b % 64) s (begins_pair (b / 64))
    ∙ (ap (λ n. n ∷ read_off s) (pair_is b) ∙ ap (λ r. b ∷ r) e))

read_step : (b : ℕ) (s bs : List ℕ) → read_off s ≡ bs → read_off (spelling b ++ s) ≡ b ∷ bs
read_step b s bs e = elim (cases_Bool (is_plain b)) [ inl t ↦ plain_step b s bs t e | inr f ↦ pair_step_is b s bs f e ]

pub read_back : (bytes : List ℕ) → read_off (spelled bytes) ≡ bytes
unfolding read_off
read_back [] = refl
read_back (b ∷ bs) = ap read_off (flat_map-cons spelling b bs) ∙ read_step b (spelled bs) bs (read_back bs)

-- ---- which characters these are

none_held : All IsHeld []
none_held k d g = absurd (omega (arith, g))

held : (c : ℕ) → 32 ≤ c → c ≤ 126 → (c ≡ 34 → ⊥) → All IsHeld (c ∷ [])
held c l m q = All-cons IsHeld c [] (l, m, q) none_held

plain_held : (b : ℕ) → is_plain b ≡ true → All IsHeld (b ∷ [])
plain_held b t =
    let p = and_parts (leb 32 b) (not (leb 123 b) && not (b == 34)) t in
    let q = and_parts (not (leb 123 b)) (not (b == 34)) p.1 in
    held b (leb-true 32 b p.0) (let h : b < 123 = leb-false 123 b (not-true (leb 123 b) q.0) in omega (arith, h))
    (eqb-false b 34 (not-true (b == 34) q.1))

pair_held : (b : ℕ) → b < 256 → All IsHeld ((123 + b / 64) ∷ (48 + b % 64) ∷ [])
pair_held b l =
    let e : b / 64 * 64 + b % 64 ≡ b = div-add-mod' b 64 in
    let r : b % 64 < 64 = mod-lt b (omega arith) in
    All-append IsHeld ((123 + b / 64) ∷ []) ((48 + b % 64) ∷ [])
    (held (123 + b / 64) (omega arith) (omega (arith, e, l)) (λ q. omega (arith, q)))
    (held (48 + b % 64) (omega arith) (omega (arith, r)) (λ q. omega (arith, q)))

byte_held : (b : ℕ) → b < 256 → All IsHeld (spelling b)
byte_held b l = elim (cases_Bool (is_plain b)) [
  | inl t ↦ subst (λ (p : List ℕ). All IsHeld p) (sym (as_plain b t)) (plain_held b t)
  | inr f ↦ subst
      (λ (p : List ℕ). All IsHeld p) (sym (as_pair b f)) (pair_held b l)
]

pub all_held : (bytes : List ℕ) → All (λ b. b < 2 ^ 8) bytes → All IsHeld (spelled bytes)
all_held [] h = none_held
all_held (b ∷ bs) h = subst (λ (p : List ℕ). All IsHeld p) (sym (flat_map-cons spelling b bs))
    (All-append IsHeld (spelling b) (spelled bs) (byte_held b (All-head (λ x. x < 2 ^ 8) b bs h))
    (all_held bs (All-tail (λ x. x < 2 ^ 8) b bs h)))
