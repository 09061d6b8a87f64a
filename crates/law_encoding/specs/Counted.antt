-- How large what the checker makes of expressions is.
use Rattle.std.specs.Prelude.{◌≤◌, ℕ, ◌+◌, Result, Ok, Err}
use Rattle.check_value.specs.declared.computed.Computed.{Computed}
use Rattle.check_value.specs.declared.computed.Computed.TheVariants as value
use Rattle.check_value.specs.declared.computed.Designated.{Designated}
use Rattle.check_value.specs.declared.computed.Designated.TheVariants as designated
use Rattle.law_encoding.specs.TypedSizes.{size_typed, size_place}

-- if there is one, it counts at most this many
pub data AtMost {A T : Type 0} (size : A → ℕ) (most : ℕ) : Result A T → Type 0 where
  fine : (x : A) → size x ≤ most → AtMost size most (Ok x)
  broken : (e : T) → AtMost size most (Err e)

abbrev pub size_value : Computed → ℕ
size_value (value.Constant v) = 1
size_value (value.Scalar t b e) = size_typed e
size_value (value.Set e) = size_typed e
size_value (value.Routine t e) = size_typed e
size_value (value.Procedure f) = 1
size_value (value.Whole t d) = 1 + size_place d
size_value value.Untaken = 0

-- a variable counts what its value does
abbrev pub size_designated : Designated → ℕ
size_designated (designated.Value x) = size_value x
size_designated (designated.Variable t d) = 1 + size_place d
size_designated (designated.Open t slot) = 2
size_designated (designated.Type t) = 0
size_designated (designated.Procedure f) = 2
size_designated (designated.Nested f) = 1
size_designated (designated.Standard f) = 0
size_designated (designated.Module k) = 0
