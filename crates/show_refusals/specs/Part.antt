-- What is shown of a long line.
use Rattle.std.specs.Prelude.{◌≡◌, ℕ, ◌+◌, ◌≤◌, List, drop, take}

-- the most bytes of a line that are shown
abbrev pub most_shown : ℕ
most_shown = 100

-- these bytes stand in the line, and this byte of them is that byte of the line
abbrev pub IsPart : (line bytes : List ℕ) (whole_start start : ℕ) → Type 0
IsPart line bytes whole_start start =
    (first : ℕ) × (bytes ≡ take most_shown (drop first line)) × (first + start ≡ whole_start)
