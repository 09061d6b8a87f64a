-- Standard procedures of constants.
use Rattle.std.specs.Prelude.{ℤ, pos, ◌-ℤ◌, Bool, false, not, cond, int_lt, Option, Some, None, Result, Ok}
use Rattle.std.specs.Int.{int_rem_euclid}
use Rattle.m2_rule.specs.declared.rule.Rule.TheVariants as rule
use Rattle.m2_tree.specs.declared.pos.Pos.{Pos}
use Rattle.typed_tree.specs.declared.types.TypeNo.{TypeNo}
use Rattle.typed_tree.specs.declared.shape.Scalar.{Scalar}
use Rattle.typed_tree.specs.declared.meaning.Value.{Value}
use Rattle.typed_tree.specs.declared.meaning.Value.TheVariants as value
use Rattle.typed_tree.specs.Types.{are_same, cardinal, char}
use Rattle.check_scope.specs.Elaborated.{Gathers, report, reported_where}
use Rattle.check_const.specs.declared.operand.Ordinal.{Ordinal}
use Rattle.check_const.specs.declared.operand.Operand.{Operand}
use Rattle.check_const.specs.declared.operand.Operand.TheVariants as operands
use Rattle.check_const.specs.declared.operator.BinaryOp.TheVariants.{Minus}
use Rattle.check_const.specs.Operands.{operand_of, number_value, truth, is_number}
use Rattle.check_const.specs.Numbers.{is_between, number_at, evaluated_at}

abbrev pub scalar_part : Option Operand → Option Ordinal
scalar_part None = None
scalar_part (Some (operands.Set bits)) = None
scalar_part (Some (operands.Scalar a)) = Some a

abbrev pub if_number : Option Ordinal → Option Ordinal
if_number None = None
if_number (Some a) = cond (is_number a.sort) (Some a) None

-- an INTEGER, a CARDINAL or a number without a type
abbrev pub whole_number : Value → Option Ordinal
whole_number v = if_number (scalar_part (operand_of v))

-- ABS
abbrev pub absolute_part : (g : Gathers) → Pos → Option Ordinal → Result Value g.Reported
absolute_part g at None = report g at rule.WrongArgument
absolute_part g at (Some a) =
    cond (int_lt a.number (pos 0)) (evaluated_at g at a.sort Minus (pos 0) a.number)
    (number_at g at a.sort a.number)

abbrev pub absolute : (g : Gathers) → Pos → Value → Result Value g.Reported
absolute g at v = absolute_part g at (whole_number v)

-- CAP: a to z alone change
abbrev pub upper : ℤ → ℤ
upper c = cond (is_between (pos 97) c (pos 122)) (c -ℤ pos 32) c

abbrev pub is_char : Option TypeNo → Bool
is_char None = false
is_char (Some t) = are_same t char

abbrev pub capital_part : (g : Gathers) → Pos → Option Ordinal → Result Value g.Reported
capital_part g at None = report g at rule.WrongArgument
capital_part g at (Some a) =
    reported_where g (not (is_char a.sort)) at rule.WrongArgument
    (Ok (number_value (Some char) (upper a.number)))

abbrev pub capital : (g : Gathers) → Pos → Value → Result Value g.Reported
capital g at v = capital_part g at (scalar_part (operand_of v))

-- CHR
abbrev pub character_part : (g : Gathers) → Pos → Option Ordinal → Result Value g.Reported
character_part g at None = report g at rule.WrongArgument
character_part g at (Some a) =
    reported_where g (not (is_between (pos 0) a.number (pos 255))) at rule.OutOfRange
    (Ok (number_value (Some char) a.number))

abbrev pub character : (g : Gathers) → Pos → Value → Result Value g.Reported
character g at v = character_part g at (whole_number v)

-- ODD
abbrev pub odd_part : (g : Gathers) → Pos → Option Ordinal → Result Value g.Reported
odd_part g at None = report g at rule.WrongArgument
odd_part g at (Some a) = Ok (truth (int_lt (pos 0) (int_rem_euclid a.number (pos 2))))

abbrev pub is_odd : (g : Gathers) → Pos → Value → Result Value g.Reported
is_odd g at v = odd_part g at (whole_number v)

-- ORD
abbrev pub ordinal_part : (g : Gathers) → Pos → Option Ordinal → Result Value g.Reported
ordinal_part g at None = report g at rule.WrongArgument
ordinal_part g at (Some a) = number_at g at (Some cardinal) a.number

abbrev pub ordinal_of : (g : Gathers) → Pos → Value → Result Value g.Reported
ordinal_of g at v = ordinal_part g at (scalar_part (operand_of v))

-- a constant of a scalar type: also MAX and MIN
abbrev pub bound_of : TypeNo → Scalar → ℤ → Value
bound_of t s n = value.Scalar (record { of = t; base = s.base; number = n })

-- VAL
abbrev pub converted_part : (g : Gathers) → TypeNo → Scalar → Pos → Option Ordinal
    → Result Value g.Reported
converted_part g t s at None = report g at rule.WrongArgument
converted_part g t s at (Some a) =
    reported_where g (not (is_between s.low a.number s.high)) at rule.OutOfRange
    (Ok (bound_of t s a.number))

abbrev pub conversion_of : (g : Gathers) → TypeNo → Scalar → Pos → Value → Result Value g.Reported
conversion_of g t s at v = converted_part g t s at (whole_number v)
