-- Sizes in 32 bits: a size that does not fit is kept as the greatest that does.
use Rattle.std.specs.Prelude.{ℕ, min}

abbrev pub cap_size : ℕ → ℕ
cap_size n = min n 4294967295
