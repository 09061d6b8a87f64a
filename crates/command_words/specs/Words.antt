-- The numbers that words of a command line stand for, and names.
use Rattle.std.specs.Prelude.{ℕ, Bool, not, ◌==◌, nat_le, ◌&&◌, List, length, Option, Some, None, if◌then◌else◌}
use Rattle.std.specs.Char.{is_ascii_digit}
use Rattle.std.specs.List.{list_all}
use Rattle.std.specs.Str.Parse.{digits_value}

-- a number of decimal digits alone, from 1 to the bound
abbrev pub number_of : (text : List ℕ) → (most : ℕ) → Option ℕ
number_of text most =
    if list_all is_ascii_digit text && (nat_le 1 (digits_value 10 text)
    && nat_le (digits_value 10 text) most)
    then Some (digits_value 10 text)
    else None

-- a name that is not empty
abbrev pub has_letters : (name : List ℕ) → Bool
has_letters name = not (length name == 0)
