-- What operators make of constants.
use Rattle.std.specs.Prelude.{ℤ, pos, Bool, true, false, not, ◌&&◌, ◌||◌, int_le, int_lt, Option, Some, None, Result, Ok}
use Rattle.m2_rule.specs.declared.rule.Rule.TheVariants as rule
use Rattle.m2_tree.specs.declared.pos.Pos.{Pos}
use Rattle.m2_tree.specs.declared.expr.RelOp.{RelOp}
use Rattle.m2_tree.specs.declared.expr.RelOp.TheVariants.{Equal, Unequal, Less, AtMost, Greater, AtLeast, In}
use Rattle.m2_tree.specs.declared.expr.Sign.{Sign}
use Rattle.m2_tree.specs.declared.expr.Sign.TheVariants as sign
use Rattle.typed_tree.specs.declared.types.TypeNo.{TypeNo}
use Rattle.typed_tree.specs.declared.meaning.Value.{Value}
use Rattle.typed_tree.specs.Types.{is_integer}
use Rattle.check_scope.specs.Elaborated.{Gathers, report, reported_where, both, beside, ◌▷◌}
use Rattle.check_const.specs.declared.operand.Ordinal.{Ordinal}
use Rattle.check_const.specs.declared.operand.Operand.{Operand}
use Rattle.check_const.specs.declared.operand.Operand.TheVariants.{Scalar, Set}
use Rattle.check_const.specs.declared.operator.BinaryOp.{BinaryOp}
use Rattle.check_const.specs.declared.operator.BinaryOp.TheVariants.{Plus, Minus, Times, Over, Div, Mod, And, Or, Relation}
use Rattle.check_const.specs.Operators.{is_division}
use Rattle.check_const.specs.Operands.{operand_of, number_value, truth, is_number, is_truth}
use Rattle.check_const.specs.Numbers.{fits, number_at, evaluated_at, quotient, remainder}
use Rattle.check_const.specs.Common.{common}
use Rattle.check_const.specs.Sets.{on_sets, member}

-- whether an operator takes scalars of this type
abbrev pub takes : BinaryOp → Option TypeNo → Bool
takes Plus sort = is_number sort
takes Minus sort = is_number sort
takes Times sort = is_number sort
takes Over sort = false
takes Div sort = is_number sort
takes Mod sort = is_number sort
takes And sort = is_truth sort
takes Or sort = is_truth sort
takes (Relation In) sort = false
takes (Relation _) sort = true

abbrev pub holds_between : RelOp → ℤ → ℤ → Bool
holds_between Equal x y = int_le x y && int_le y x
holds_between Unequal x y = not (int_le x y && int_le y x)
holds_between Less x y = int_lt x y
holds_between AtMost x y = int_le x y
holds_between Greater x y = int_lt y x
holds_between AtLeast x y = int_le y x
holds_between In x y = false

abbrev pub ordinal_result : (g : Gathers) → BinaryOp → Pos → Option TypeNo → ℤ → ℤ
    → Result Value g.Reported
ordinal_result g Plus spot sort x y = evaluated_at g spot sort Plus x y
ordinal_result g Minus spot sort x y = evaluated_at g spot sort Minus x y
ordinal_result g Times spot sort x y = evaluated_at g spot sort Times x y
ordinal_result g Over spot sort x y = report g spot rule.WrongType
ordinal_result g Div spot sort x y = number_at g spot sort (quotient x y)
ordinal_result g Mod spot sort x y = number_at g spot sort (remainder x y)
ordinal_result g And spot sort x y = Ok (truth (int_lt (pos 0) x && int_lt (pos 0) y))
ordinal_result g Or spot sort x y = Ok (truth (int_lt (pos 0) x || int_lt (pos 0) y))
ordinal_result g (Relation r) spot sort x y = Ok (truth (holds_between r x y))

abbrev pub divisor : (g : Gathers) → BinaryOp → Pos → ℤ → Result (Unit {0}) g.Reported
divisor g op spot y =
    reported_where g (is_division op && int_lt y (pos 1)) spot rule.OutOfRange (Ok tt)

-- a number without a type that the other's type does not have
abbrev pub is_misfit : Option TypeNo → Option TypeNo → ℤ → Bool
is_misfit None sort n = false
is_misfit (Some t) (Some u) n = false
is_misfit (Some t) None n = not (fits (Some t) n)

abbrev pub fitting : (g : Gathers) → Option TypeNo → Pos → Ordinal → Result (Unit {0}) g.Reported
fitting g sort at a = reported_where g (is_misfit sort a.sort a.number) at rule.OutOfRange (Ok tt)

abbrev pub ordinal_operation : (g : Gathers) → BinaryOp → Pos → Option TypeNo → Pos → Ordinal → Pos
    → Ordinal → Result Value g.Reported
ordinal_operation g op spot sort at a at' b =
    reported_where g (not (takes op sort)) spot rule.WrongType
    (beside g (divisor g op spot b.number) (beside g (fitting g sort at a) (fitting g sort at' b))
    ▷ λ fine.
    ordinal_result g op spot sort a.number b.number)

abbrev pub on_scalars : (g : Gathers) → BinaryOp → Pos → Pos → Ordinal → Pos → Ordinal
    → Option (Option TypeNo) → Result Value g.Reported
on_scalars g op spot at a at' b None = report g spot rule.WrongType
on_scalars g op spot at a at' b (Some sort) = ordinal_operation g op spot sort at a at' b

abbrev pub binary : (g : Gathers) → BinaryOp → Pos → Pos → Option Operand → Pos → Option Operand
    → Result Value g.Reported
binary g op spot at (Some (Scalar a)) at' (Some (Scalar b)) =
    on_scalars g op spot at a at' b (common a.sort b.sort)
binary g op spot at (Some (Scalar a)) at' (Some (Set b)) = member g op spot at a b
binary g op spot at (Some (Scalar a)) at' None = report g spot rule.WrongType
binary g op spot at (Some (Set a)) at' (Some (Scalar b)) = report g spot rule.WrongType
binary g op spot at (Some (Set a)) at' (Some (Set b)) = on_sets g op spot a b
binary g op spot at (Some (Set a)) at' None = report g spot rule.WrongType
binary g op spot at None at' y = report g spot rule.WrongType

-- an operator at a place, between two parts at theirs
abbrev pub constant_operation : (g : Gathers) → BinaryOp → Pos → Pos → Result Value g.Reported → Pos
    → Result Value g.Reported → Result Value g.Reported
constant_operation g op spot at x at' y =
    both g x y ▷ λ v. binary g op spot at (operand_of v.0) at' (operand_of v.1)

-- ---- signs and NOT

-- INTEGER, or a number without a type
abbrev pub is_signed : Option TypeNo → Bool
is_signed None = true
is_signed (Some t) = is_integer t

abbrev pub signed_scalar : (g : Gathers) → Sign → Pos → Ordinal → Result Value g.Reported
signed_scalar g sign.Plus spot a =
    reported_where g (not (is_number a.sort)) spot rule.WrongType
    (Ok (number_value a.sort a.number))
signed_scalar g sign.Minus spot a =
    reported_where g (not (is_signed a.sort)) spot rule.WrongType
    (evaluated_at g spot a.sort Minus (pos 0) a.number)

abbrev pub signed_value : (g : Gathers) → Sign → Pos → Option Operand → Result Value g.Reported
signed_value g o spot None = report g spot rule.WrongType
signed_value g o spot (Some (Set bits)) = report g spot rule.WrongType
signed_value g o spot (Some (Scalar a)) = signed_scalar g o spot a

abbrev pub with_sign : (g : Gathers) → Sign → Pos → Result Value g.Reported
    → Result Value g.Reported
with_sign g o spot x = x ▷ λ v. signed_value g o spot (operand_of v)

abbrev pub negated_value : (g : Gathers) → Pos → Option Operand → Result Value g.Reported
negated_value g spot None = report g spot rule.WrongType
negated_value g spot (Some (Set bits)) = report g spot rule.WrongType
negated_value g spot (Some (Scalar a)) =
    reported_where g (not (is_truth a.sort)) spot rule.WrongType
    (Ok (truth (not (int_lt (pos 0) a.number))))

abbrev pub negation : (g : Gathers) → Pos → Result Value g.Reported → Result Value g.Reported
negation g spot x = x ▷ λ v. negated_value g spot (operand_of v)
