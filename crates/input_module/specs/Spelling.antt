-- How the bytes of an input are spelled by characters that a string of Modula-2 can hold, and how
-- they are read off them.
use Rattle.std.specs.Prelude.{◌≤◌, ◌≢◌, ℕ, ◌+◌, ◌-◌, ◌*◌, ◌/◌, ◌%◌, Bool, not, ◌&&◌, ◌==◌, nat_le, List, [], ◌∷◌, if◌then◌else◌}
use Rattle.std.specs.List.{flat_map}

-- the first of the four characters that begin a pair, {
abbrev pub first_pair : ℕ
first_pair = 123

-- how many bytes the pairs of one first character stand for
abbrev pub pair_step : ℕ
pair_step = 64

-- the least second character of a pair, 0
abbrev pub least_second : ℕ
least_second = 48

-- the quote of the strings, "
abbrev pub quote : ℕ
quote = 34

-- a byte from the blank on that is no quote and begins no pair
abbrev pub is_plain : ℕ → Bool
is_plain b = nat_le 32 b && (not (nat_le first_pair b) && not (b == quote))

-- the characters of a byte
unfoldable pub spelling : ℕ → List ℕ
spelling b =
    if is_plain b
    then b ∷ []
    else (first_pair + b / pair_step) ∷ (least_second + b % pair_step) ∷ []

abbrev pub spelled : List ℕ → List ℕ
spelled bytes = flat_map spelling bytes

-- what a pair stands for
abbrev pub paired : (first second : ℕ) → ℕ
paired first second = (first - first_pair) * pair_step + (second - least_second)

-- the bytes that characters stand for
unfoldable pub read_off : List ℕ → List ℕ
read_off [] = []
read_off (c ∷ []) = c ∷ []
read_off (c ∷ d ∷ rest) =
    if nat_le first_pair c then paired c d ∷ read_off rest else c ∷ read_off (d ∷ rest)

-- a string between two quotes can hold this character
abbrev pub IsHeld : ℕ → Type 0
IsHeld c = (32 ≤ c) × (c ≤ 126) × (c ≢ quote)
