-- Values as operators see them.
use Rattle.std.specs.Prelude.{pos, Option, Some, None}
use Rattle.typed_tree.specs.declared.types.TypeNo.{TypeNo}
use Rattle.typed_tree.specs.declared.computed.TypedExpr.{TypedExpr}
use Rattle.typed_tree.specs.declared.computed.TypedExpr.TheVariants as expr
use Rattle.typed_tree.specs.Types.{cardinal, bitset}
use Rattle.check_const.specs.declared.operand.Operand.{Operand}
use Rattle.check_const.specs.declared.operand.Operand.TheVariants as operand
use Rattle.check_const.specs.Operands.{operand_of}
use Rattle.check_value.specs.declared.computed.Computed.{Computed}
use Rattle.check_value.specs.declared.computed.Computed.TheVariants as value
use Rattle.check_value.specs.declared.side.Amount.{Amount}
use Rattle.check_value.specs.declared.side.Amount.TheVariants.{Known, Run}
use Rattle.check_value.specs.declared.side.Side.{Side}
use Rattle.check_value.specs.declared.side.Side.TheVariants as side

-- a constant that operators take
abbrev pub known_of : Computed → Option Operand
known_of (value.Constant v) = operand_of v
known_of (value.Scalar t b e) = None
known_of (value.Set e) = None
known_of (value.Routine t e) = None
known_of (value.Procedure p) = None
known_of (value.Whole t d) = None
known_of value.Untaken = None

abbrev pub constant_side : Option Operand → Option Side
constant_side None = None
constant_side (Some (operand.Scalar a)) = Some (side.Scalar (Known a))
constant_side (Some (operand.Set bits)) = Some (side.Set (expr.Constant bitset (pos bits)))

-- a scalar in its base type, a set or a procedure; arrays, records and strings whose length is not
-- 1 are no operands
abbrev pub side_of : Computed → Option Side
side_of (value.Constant v) = constant_side (operand_of v)
side_of (value.Scalar t b e) = Some (side.Scalar (Run b e))
side_of (value.Set e) = Some (side.Set e)
side_of (value.Routine t e) = Some (side.Routine t e)
side_of (value.Procedure p) = Some (side.Procedure p)
side_of (value.Whole t d) = None
side_of value.Untaken = None

-- the base type, if it is no number without a type
abbrev pub sort_of : Amount → Option TypeNo
sort_of (Known a) = a.sort
sort_of (Run b e) = Some b

abbrev pub or_cardinal : Option TypeNo → TypeNo
or_cardinal None = cardinal
or_cardinal (Some t) = t

-- a constant gets the type that is asked for
abbrev pub run_of : TypeNo → Amount → TypedExpr
run_of t (Known a) = expr.Constant t a.number
run_of t (Run b e) = e
