-- Numbers are written in one way.
use Rattle.std.proofs.Common.{◌≡◌, ℕ, Bool, true, false, cond, eqb, [], ◌∷◌, ◌++◌, ap, sym, refl, ◌∙◌, append-nil}
use Rattle.std.specs.List.{list_all}
use Rattle.std.proofs.lemmas.Bool.{eqb-true}
use Rattle.std.proofs.lemmas.List.{same_from_push, append_cancel_right}
use Rattle.scan_tokens.specs.declared.number.Numeral.{Numeral}
use Rattle.scan_tokens.specs.declared.number.Numeral.TheVariants.{Decimal, Octal, Hexadecimal, Code}
use Rattle.scan_tokens.specs.declared.refusal.TokenRule.{TokenRule}
use Rattle.scan_tokens.specs.declared.refusal.TokenRule.TheVariants.{TooLong, StrayByte, OpenComment, OpenString, BadNumber, LargeNumber, LongName}
use Rattle.scan_tokens.specs.Bytes.{Text}
use Rattle.scan_tokens.specs.Numbers.{RefusesNumber, Writes, base, suffix, digit, is_digit_of, value}
use Rattle.scan_tokens.specs.Steps.{form_by, RefusesDigits}
use Rattle.scan_tokens.proofs.Lists.{and_true, all_append}

no_digits : (is_digit_of 10 66 ≡ false) × (is_digit_of 10 72 ≡ false) × (is_digit_of 10 67 ≡ false)
unfolding digit
no_digits = (refl, refl, refl)

differs : (c k : ℕ) → is_digit_of 10 k ≡ false → is_digit_of 10 c ≡ true → eqb c k ≡ false
differs c k fails h =
    let P : Bool → Type 0 = λ v. eqb c k ≡ v → v ≡ false in
    elim (eqb c k) as P [
      | true ↦ λ e. (let same : c ≡ k = eqb-true c k e in
          let passes : is_digit_of 10 k ≡ true = ap (is_digit_of 10) (sym same) ∙ h in sym passes ∙ fails)
      | false ↦ λ _.
          refl
    ] refl

decimal_last : (c : ℕ) → is_digit_of 10 c ≡ true → form_by c ≡ Decimal
decimal_last c h =
    ap (λ v. cond v Octal (cond (eqb c 72) Hexadecimal (cond (eqb c 67) Code Decimal))) (differs c 66 no_digits.0 h)
    ∙ ap (λ v. cond v Hexadecimal (cond (eqb c 67) Code Decimal)) (differs c 72 no_digits.1 h)
    ∙ ap (λ v. cond v Code Decimal) (differs c 67 no_digits.2 h)

last_passes : (p : ℕ → Bool) (front : Text) (c : ℕ) → list_all p (front ++ c ∷ []) ≡ true → p c ≡ true
last_passes p front c h = (and_true (p c) true (all_append p front (c ∷ []) h).1).0

-- the last byte says how a number is written
pub written_last : (form : Numeral) (w : Text) (n : ℕ) (front : Text) (c : ℕ) → Writes w form n → w ≡ front ++ c ∷ []
    → form ≡ form_by c
written_last Decimal w n front c h e =
    let digits : h.0 ≡ front ++ c ∷ [] = sym (append-nil h.0) ∙ sym h.1 ∙ e in
    sym (decimal_last c (last_passes (is_digit_of 10) front c (ap (list_all (is_digit_of 10)) (sym digits) ∙ h.2)))
written_last Octal w n front c h e = ap form_by (same_from_push h.0 front 66 c (sym h.1 ∙ e)).1
written_last Hexadecimal w n front c h e = ap form_by (same_from_push h.0 front 72 c (sym h.1 ∙ e)).1
written_last Code w n front c h e = ap form_by (same_from_push h.0 front 67 c (sym h.1 ∙ e)).1

same_digits : (form other : Numeral) (digits others : Text) → form ≡ other
    → digits ++ suffix form ≡ others ++ suffix other → digits ≡ others
same_digits form other digits others same e =
    append_cancel_right digits others (suffix form) (e ∙ ap (λ f. others ++ suffix f) (sym same))

pub refused_digits : (form : Numeral) (w digits front : Text) (c : ℕ) (broken : TokenRule)
    → w ≡ front ++ c ∷ [] → form ≡ form_by c → w ≡ digits ++ suffix form → RefusesDigits form digits broken
    → RefusesNumber w broken
refused_digits form w digits front c BadNumber e is d h = λ other n k.
    let same : other ≡ form = written_last other w n front c k e ∙ sym is in
    let digits_same = same_digits other form k.0 digits same (sym k.1 ∙ d) in
    let passes : list_all (is_digit_of (base form)) digits ≡ true =
    ap (λ f. list_all (is_digit_of (base f)) digits) (sym same)
    ∙ ap (list_all (is_digit_of (base other))) (sym digits_same) ∙ k.2 in
    cc
refused_digits form w digits front c LargeNumber e is d h =
    (form, value (base form) digits, (digits, d, h.0, refl), h.1)
refused_digits form w digits front c TooLong e is d h = h
refused_digits form w digits front c StrayByte e is d h = h
refused_digits form w digits front c OpenComment e is d h = h
refused_digits form w digits front c OpenString e is d h = h
refused_digits form w digits front c LongName e is d h = h

-- Each is written in one way.
pub written_once : (w : Text) (form other : Numeral) (n m : ℕ) (front : Text) (c : ℕ) → w ≡ front ++ c ∷ []
    → Writes w form n → Writes w other m → (form ≡ other) × (n ≡ m)
written_once w form other n m front c e h k =
    let same : form ≡ other = written_last form w n front c h e ∙ sym (written_last other w m front c k e) in
    let digits = same_digits form other h.0 k.0 same (sym h.1 ∙ k.1) in
    (same, h.3 ∙ ap (λ f. value (base f) h.0) same ∙ ap (value (base other)) digits ∙ sym k.3)
