-- Names of modules.
use Rattle.std.specs.Prelude.{ℕ, ◌<◌, ◌≤◌, List, length, All}
use Rattle.m2_tree.specs.Limits.{max_name}

-- letters and digits, as in every name: the bytes from the digit 0 to the letter z, at most 64 of
-- them
abbrev pub IsName : List ℕ → Type 0
IsName name = (length name ≤ max_name) × All (λ b. (48 ≤ b) × (b < 123)) name
