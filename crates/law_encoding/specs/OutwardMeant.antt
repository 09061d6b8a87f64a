-- How many procedures outwards what the checker makes of expressions goes.
use Rattle.std.specs.Prelude.{ℕ}
use Rattle.check_value.specs.declared.computed.Computed.{Computed}
use Rattle.check_value.specs.declared.computed.Computed.TheVariants as value
use Rattle.check_value.specs.declared.computed.Designated.{Designated}
use Rattle.check_value.specs.declared.computed.Designated.TheVariants as designated
use Rattle.law_encoding.specs.Outward.{outward_typed, outward_place}

abbrev pub outward_value : Computed → ℕ
outward_value (value.Constant v) = 0
outward_value (value.Scalar t b e) = outward_typed e
outward_value (value.Set e) = outward_typed e
outward_value (value.Routine t e) = outward_typed e
outward_value (value.Procedure f) = 0
outward_value (value.Whole t d) = outward_place d
outward_value value.Untaken = 0

-- a variable goes as far as its value
abbrev pub outward_designated : Designated → ℕ
outward_designated (designated.Value x) = outward_value x
outward_designated (designated.Variable t d) = outward_place d
outward_designated (designated.Open t slot) = slot.up
outward_designated (designated.Type t) = 0
outward_designated (designated.Procedure f) = 0
outward_designated (designated.Nested f) = f.up
outward_designated (designated.Standard f) = 0
outward_designated (designated.Module k) = 0
