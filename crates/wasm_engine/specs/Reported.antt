-- The bytes that a sink reports.
use Rattle.std.specs.Prelude.{ℕ, List, ◌++◌, Option, Some, None}

-- the bytes with others behind them, if they are reported
abbrev pub with_bytes : Option (List ℕ) → List ℕ → Option (List ℕ)
with_bytes None more = None
with_bytes (Some bytes) more = Some (bytes ++ more)
