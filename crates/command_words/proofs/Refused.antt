-- What `parse` answers for a text of digits.
use Rattle.std.proofs.Common.{rules, arith, refl}
use Rattle.std.specs.Prelude.{◌≡◌, ℕ, ◌^◌, ◌<◌, nat_le, ◌&&◌, Bool, true, false, List, [], ◌∷◌, length, None, Err}
use Rattle.std.specs.Char.{is_ascii_digit}
use Rattle.std.specs.List.{list_all}
use Rattle.std.specs.Str.Parse.{digits_value, ParsesUnsigned}
use Rattle.std.proofs.lemmas.Str.Parse.{numerals_by_value, parse_digits}
use Rattle.command_words.specs.Words.{number_of}

-- a number of more than 64 bits, or none at all
too_large : (bs : List ℕ) (most : ℕ) → most < 2 ^ 64 → ((0 < length bs) × (digits_value 10 bs < 2 ^ 64) → ⊥)
    → (b : Bool) → (nat_le 1 (digits_value 10 bs) && nat_le (digits_value 10 bs) most) ≡ b → b ≡ false
too_large bs most small unfit false e = refl
too_large [] most small unfit true e = grind (arith, e)
too_large (c ∷ cs) most small unfit true e = absurd (unfit (omega arith, grind (arith, e, small)))

pub refused : {E : Type 0} → (bs : List ℕ) (most : ℕ) (e : E) → ParsesUnsigned 64 10 bs (Err e) → most < 2 ^ 64
    → list_all is_ascii_digit bs ≡ true → None ≡ number_of bs most
refused bs most e h small digits =
    let unfit : (0 < length bs) × (digits_value 10 bs < 2 ^ 64) → ⊥ =
    parse_digits (numerals_by_value (λ ds. list_all is_ascii_digit ds ≡ true) (search rules)) 64 bs (Err e) h digits
    in rw (digits, too_large bs most small unfit _ refl) refl
