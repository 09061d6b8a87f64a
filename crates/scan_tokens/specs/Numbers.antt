-- Numbers as they are written: digits, and a letter that says the base.
use Rattle.std.specs.Prelude.{◌≡◌, ◌≤◌, ℕ, ◌+◌, ◌-◌, ◌*◌, ◌^◌, true, ◌&&◌, nat_le, nat_lt, Bool, [], ◌∷◌, ◌++◌, fold, if◌then◌else◌}
use Rattle.std.specs.List.{list_all}
use Rattle.scan_tokens.specs.declared.number.Numeral.{Numeral}
use Rattle.scan_tokens.specs.declared.number.Numeral.TheVariants.{Decimal, Octal, Hexadecimal, Code}
use Rattle.scan_tokens.specs.declared.refusal.TokenRule.{TokenRule}
use Rattle.scan_tokens.specs.declared.refusal.TokenRule.TheVariants.{BadNumber, LargeNumber}
use Rattle.scan_tokens.specs.Bytes.{Text, is_digit}

abbrev pub base : Numeral → ℕ
base Decimal = 10
base Octal = 8
base Hexadecimal = 16
base Code = 8

-- B, H and C
abbrev pub suffix : Numeral → Text
suffix Decimal = []
suffix Octal = 66 ∷ []
suffix Hexadecimal = 72 ∷ []
suffix Code = 67 ∷ []

-- the least number that is too large
abbrev pub limit : Numeral → ℕ
limit Code = 256
limit _ = 2 ^ 32

-- what 0 to 9 and A to F stand for; another byte is a digit in no base
unfoldable pub digit : ℕ → ℕ
digit b = if is_digit b then b - 48 else if nat_le 65 b && nat_le b 70 then b - 55 else 16

abbrev pub is_digit_of : ℕ → ℕ → Bool
is_digit_of base b = nat_lt (digit b) base

abbrev pub value : ℕ → Text → ℕ
value base digits = fold (λ n b. n * base + digit b) 0 digits

-- The bytes are a number that is written so, and this is its value.
abbrev pub Writes : Text → Numeral → ℕ → Type 0
Writes w form n =
    (digits : Text) × (w ≡ digits ++ suffix form)
    × (list_all (is_digit_of (base form)) digits ≡ true) × (n ≡ value (base form) digits)

-- what is wrong with digits and letters that are no number
abbrev pub RefusesNumber : Text → TokenRule → Type 0
RefusesNumber w BadNumber = (form : Numeral) (n : ℕ) → Writes w form n → ⊥
RefusesNumber w LargeNumber = (form : Numeral) × (n : ℕ) × Writes w form n × (limit form ≤ n)
RefusesNumber w _ = ⊥
