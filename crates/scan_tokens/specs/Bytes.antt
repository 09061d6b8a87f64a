-- The classes of bytes.
use Rattle.std.specs.Prelude.{ℕ, Bool, true, false, not, ◌&&◌, ◌||◌, ◌==◌, nat_le, List, if◌then◌else◌}
use Rattle.scan_tokens.specs.declared.class.Class.{Class}
use Rattle.scan_tokens.specs.declared.class.Class.TheVariants.{Space, Letter, Digit, Quote, Other}

abbrev pub Text : Type 0
Text = List ℕ

-- 20H, 09H, 0AH and 0DH
abbrev pub is_space : ℕ → Bool
is_space b = b == 32 || b == 9 || b == 10 || b == 13

abbrev pub is_letter : ℕ → Bool
is_letter b = (nat_le 65 b && nat_le b 90) || (nat_le 97 b && nat_le b 122)

abbrev pub is_capital : ℕ → Bool
is_capital b = nat_le 65 b && nat_le b 90

abbrev pub is_digit : ℕ → Bool
is_digit b = nat_le 48 b && nat_le b 57

-- " and '
abbrev pub is_quote : ℕ → Bool
is_quote b = b == 34 || b == 39

unfoldable pub class : ℕ → Class
class b =
    if is_space b
    then Space
    else if is_letter b
    then Letter
    else if is_digit b then Digit else if is_quote b then Quote else Other

-- the classes of which names and numbers are made
abbrev pub in_run : Class → Bool
in_run Letter = true
in_run Digit = true
in_run _ = false

-- letters and digits
abbrev pub is_run_byte : ℕ → Bool
is_run_byte b = in_run (class b)

-- what may stand in a string
unfoldable pub is_printable : ℕ → Bool
is_printable b = nat_le 32 b && nat_le b 126

-- what doesn't end a string that begins with the quote q, nor its line
unfoldable pub is_inside : ℕ → ℕ → Bool
is_inside q b = not (b == q || b == 10)

unfoldable pub is_line_end : ℕ → Bool
is_line_end b = b == 10
