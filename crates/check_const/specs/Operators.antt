-- Operators.
use Rattle.std.specs.Prelude.{Bool, true, false}
use Rattle.m2_tree.specs.declared.expr.MulOp.{MulOp}
use Rattle.m2_tree.specs.declared.expr.MulOp.TheVariants as mul
use Rattle.m2_tree.specs.declared.expr.AddOp.{AddOp}
use Rattle.m2_tree.specs.declared.expr.AddOp.TheVariants as add
use Rattle.check_const.specs.declared.operator.BinaryOp.{BinaryOp}
use Rattle.check_const.specs.declared.operator.BinaryOp.TheVariants.{Plus, Minus, Times, Over, Div, Mod, And, Or, Relation}

abbrev pub mul_op : MulOp → BinaryOp
mul_op mul.Times = Times
mul_op mul.Over = Over
mul_op mul.Div = Div
mul_op mul.Mod = Mod
mul_op mul.And = And

abbrev pub add_op : AddOp → BinaryOp
add_op add.Plus = Plus
add_op add.Minus = Minus
add_op add.Or = Or

abbrev pub is_division : BinaryOp → Bool
is_division Plus = false
is_division Minus = false
is_division Times = false
is_division Over = false
is_division Div = true
is_division Mod = true
is_division And = false
is_division Or = false
is_division (Relation r) = false
