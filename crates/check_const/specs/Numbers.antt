-- Numbers and their ranges.
use Rattle.std.specs.Prelude.{ℤ, pos, negsuc, ◌+ℤ◌, ◌-ℤ◌, ◌*ℤ◌, Bool, not, cond, ◌&&◌, int_le, int_lt, Option, Some, None, Result, Ok}
use Rattle.std.specs.Int.{int_div_euclid, int_rem_euclid}
use Rattle.m2_rule.specs.declared.rule.Rule.TheVariants as rule
use Rattle.m2_tree.specs.declared.pos.Pos.{Pos}
use Rattle.typed_tree.specs.declared.types.TypeNo.{TypeNo}
use Rattle.typed_tree.specs.declared.meaning.Value.{Value}
use Rattle.typed_tree.specs.Types.{is_integer}
use Rattle.check_scope.specs.Elaborated.{Gathers, reported_where}
use Rattle.check_const.specs.declared.operator.BinaryOp.{BinaryOp}
use Rattle.check_const.specs.declared.operator.BinaryOp.TheVariants.{Plus, Minus, Times, Over, Div, Mod, And, Or, Relation}
use Rattle.check_const.specs.Operands.{number_value}

abbrev pub is_between : ℤ → ℤ → ℤ → Bool
is_between low n high = int_le low n && int_le n high

-- INTEGER, or else CARDINAL, has the number; a number without a type may be as great
abbrev pub fits : Option TypeNo → ℤ → Bool
fits None n = is_between (negsuc 2147483647) n (pos 4294967295)
fits (Some t) n =
    cond (is_integer t) (is_between (negsuc 2147483647) n (pos 2147483647))
    (is_between (pos 0) n (pos 4294967295))

abbrev pub number_at : (g : Gathers) → Pos → Option TypeNo → ℤ → Result Value g.Reported
number_at g at sort n =
    reported_where g (not (fits sort n)) at rule.OutOfRange (Ok (number_value sort n))

abbrev pub whole_arithmetic : BinaryOp → ℤ → ℤ → ℤ
whole_arithmetic Plus x y = x +ℤ y
whole_arithmetic Minus x y = x -ℤ y
whole_arithmetic Times x y = x *ℤ y
whole_arithmetic Over x y = pos 0
whole_arithmetic Div x y = pos 0
whole_arithmetic Mod x y = pos 0
whole_arithmetic And x y = pos 0
whole_arithmetic Or x y = pos 0
whole_arithmetic (Relation r) x y = pos 0

abbrev pub evaluated_at : (g : Gathers) → Pos → Option TypeNo → BinaryOp → ℤ → ℤ
    → Result Value g.Reported
evaluated_at g at sort op x y = number_at g at sort (whole_arithmetic op x y)

-- x = q * y + r with 0 <= r < y, if y is positive
abbrev pub quotient : ℤ → ℤ → ℤ
quotient x y = cond (int_lt y (pos 1)) (pos 0) (int_div_euclid x y)

abbrev pub remainder : ℤ → ℤ → ℤ
remainder x y = cond (int_lt y (pos 1)) (pos 0) (int_rem_euclid x y)
