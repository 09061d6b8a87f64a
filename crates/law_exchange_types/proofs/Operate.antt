-- Operate of check_const, with other numbers of modules.
use Rattle.check_const.specs.Numbers.{quotient, remainder}
use Rattle.check_const.specs.Operate.{ordinal_result, signed_value, negation, signed_scalar, negated_value, with_sign, is_misfit, binary, is_signed, fitting, constant_operation, on_scalars, takes, ordinal_operation}
use Rattle.check_const.specs.declared.operand.Operand.{Operand}
use Rattle.check_const.specs.declared.operand.Operand.TheVariants.{Scalar, Set}
use Rattle.check_const.specs.declared.operand.Ordinal.{Ordinal}
use Rattle.check_const.specs.declared.operator.BinaryOp.{BinaryOp}
use Rattle.check_const.specs.declared.operator.BinaryOp.TheVariants.{Plus, Minus, Times, Over, Div, Mod, And, Or, Relation}
use Rattle.check_scope.specs.Elaborated.{Gathers}
use Rattle.def_exchange.specs.Moved.{moved_type, moved_value, Exchange}
use Rattle.law_exchange_types.proofs.Basics.{where_moves, then_map, map_then, both_moves}
use Rattle.law_exchange_types.proofs.Common.{common_moves}
use Rattle.law_exchange_types.proofs.Numbers.{evaluated_at_moves, number_at_moves, fits_moves}
use Rattle.law_exchange_types.proofs.Numeric.{is_integer_moves}
use Rattle.law_exchange_types.proofs.Operands.{is_number_moves, is_truth_moves, truth_moves, operand_of_moves, number_value_moves}
use Rattle.law_exchange_types.proofs.Sets.{member_moves, on_sets_moves}
use Rattle.law_exchange_types.specs.Constants.{moved_operand, moved_ordinal}
use Rattle.law_exchange_types.specs.Pieces.{map_ok}
use Rattle.m2_tree.specs.declared.expr.RelOp.TheVariants.{In}
use Rattle.m2_tree.specs.declared.expr.Sign.{Sign}
use Rattle.m2_tree.specs.declared.pos.Pos.{Pos}
use Rattle.std.proofs.Common.{◌≡◌, refl, None, Option, Result, Some, option_map, pos, ℤ}
use Rattle.typed_tree.specs.declared.meaning.Value.{Value}
use Rattle.typed_tree.specs.declared.types.TypeNo.{TypeNo}
use Rattle.m2_tree.specs.declared.expr.Sign.TheVariants as sign

pub takes_moves : (z : Exchange) (a0 : BinaryOp) (sort : Option TypeNo)
    → takes a0 (option_map (moved_type z) sort) ≡ takes a0 sort
takes_moves z Plus sort = is_number_moves z sort
takes_moves z Minus sort = is_number_moves z sort
takes_moves z Times sort = is_number_moves z sort
takes_moves z Over sort = refl
takes_moves z Div sort = is_number_moves z sort
takes_moves z Mod sort = is_number_moves z sort
takes_moves z And sort = is_truth_moves z sort
takes_moves z Or sort = is_truth_moves z sort
takes_moves z (Relation In) sort = refl
takes_moves z (Relation _) sort = refl

pub ordinal_result_moves : (z : Exchange) (g : Gathers) (a0 : BinaryOp) (spot : Pos) (sort : Option TypeNo) (x : ℤ)
    (y : ℤ)
    → ordinal_result g a0 spot (option_map (moved_type z) sort) x y
    ≡ map_ok (moved_value z) (ordinal_result g a0 spot sort x y)
ordinal_result_moves z g Plus spot sort x y = evaluated_at_moves z g spot sort Plus x y
ordinal_result_moves z g Minus spot sort x y = evaluated_at_moves z g spot sort Minus x y
ordinal_result_moves z g Times spot sort x y = evaluated_at_moves z g spot sort Times x y
ordinal_result_moves z g Over spot sort x y = refl
ordinal_result_moves z g Div spot sort x y = number_at_moves z g spot sort (quotient x y)
ordinal_result_moves z g Mod spot sort x y = number_at_moves z g spot sort (remainder x y)
ordinal_result_moves z g And spot sort x y = simp (truth_moves)
ordinal_result_moves z g Or spot sort x y = simp (truth_moves)
ordinal_result_moves z g (Relation r) spot sort x y = simp (truth_moves)

pub is_misfit_moves : (z : Exchange) (a0 : Option TypeNo) (sort : Option TypeNo) (n : ℤ)
    → is_misfit (option_map (moved_type z) a0) (option_map (moved_type z) sort) n ≡ is_misfit a0 sort n
is_misfit_moves z None sort n = refl
is_misfit_moves z (Some t) (Some u) n = refl
is_misfit_moves z (Some t) None n = simp (fits_moves z (Some t) n)

pub fitting_moves : (z : Exchange) (g : Gathers) (sort : Option TypeNo) (at : Pos) (a : Ordinal)
    → fitting g (option_map (moved_type z) sort) at (moved_ordinal z a) ≡ fitting g sort at a
fitting_moves z g sort at a = simp (is_misfit_moves)

pub ordinal_operation_moves : (z : Exchange) (g : Gathers) (op : BinaryOp) (spot : Pos) (sort : Option TypeNo)
    (at : Pos) (a : Ordinal) (at' : Pos) (b : Ordinal)
    → ordinal_operation g op spot (option_map (moved_type z) sort) at (moved_ordinal z a) at' (moved_ordinal z b)
    ≡ map_ok (moved_value z) (ordinal_operation g op spot sort at a at' b)
ordinal_operation_moves z g op spot sort at a at' b =
    simp (takes_moves, fitting_moves, ordinal_result_moves, map_then, where_moves)

pub on_scalars_moves : (z : Exchange) (g : Gathers) (op : BinaryOp) (spot : Pos) (at : Pos) (a : Ordinal) (at' : Pos)
    (b : Ordinal) (a6 : Option (Option TypeNo))
    → on_scalars g op spot at (moved_ordinal z a) at' (moved_ordinal z b) (option_map (option_map (moved_type z)) a6)
    ≡ map_ok (moved_value z) (on_scalars g op spot at a at' b a6)
on_scalars_moves z g op spot at a at' b None = refl
on_scalars_moves z g op spot at a at' b (Some sort) = ordinal_operation_moves z g op spot sort at a at' b

pub binary_moves : (z : Exchange) (g : Gathers) (op : BinaryOp) (spot : Pos) (at : Pos) (a3 : Option Operand)
    (at' : Pos) (y : Option Operand)
    → binary g op spot at (option_map (moved_operand z) a3) at' (option_map (moved_operand z) y)
    ≡ map_ok (moved_value z) (binary g op spot at a3 at' y)
binary_moves z g op spot at (Some (Scalar a)) at' (Some (Scalar b)) = simp (on_scalars_moves, common_moves)
binary_moves z g op spot at (Some (Scalar a)) at' (Some (Set b)) = member_moves z g op spot at a b
binary_moves z g op spot at (Some (Scalar a)) at' None = refl
binary_moves z g op spot at (Some (Set a)) at' (Some (Scalar b)) = refl
binary_moves z g op spot at (Some (Set a)) at' (Some (Set b)) = simp (on_sets_moves)
binary_moves z g op spot at (Some (Set a)) at' None = refl
binary_moves z g op spot at None at' y = refl

pub constant_operation_moves : (z : Exchange) (g : Gathers) (op : BinaryOp) (spot : Pos) (at : Pos)
    (x : Result Value g.Reported) (at' : Pos) (y : Result Value g.Reported)
    → constant_operation g op spot at (map_ok (moved_value z) x) at' (map_ok (moved_value z) y)
    ≡ map_ok (moved_value z) (constant_operation g op spot at x at' y)
constant_operation_moves z g op spot at x at' y = simp (binary_moves, operand_of_moves, then_map, map_then, both_moves)

pub is_signed_moves : (z : Exchange) (a0 : Option TypeNo)
    → is_signed (option_map (moved_type z) a0) ≡ is_signed a0
is_signed_moves z None = refl
is_signed_moves z (Some t) = is_integer_moves z t

pub signed_scalar_moves : (z : Exchange) (g : Gathers) (a0 : Sign) (spot : Pos) (a : Ordinal)
    → signed_scalar g a0 spot (moved_ordinal z a) ≡ map_ok (moved_value z) (signed_scalar g a0 spot a)
signed_scalar_moves z g sign.Plus spot a = simp (is_number_moves, number_value_moves, where_moves)
signed_scalar_moves z g sign.Minus spot a =
    simp (is_signed_moves, evaluated_at_moves z g spot a.sort Minus (pos 0) a.number, where_moves)

pub signed_value_moves : (z : Exchange) (g : Gathers) (o : Sign) (spot : Pos) (a2 : Option Operand)
    → signed_value g o spot (option_map (moved_operand z) a2) ≡ map_ok (moved_value z) (signed_value g o spot a2)
signed_value_moves z g o spot None = refl
signed_value_moves z g o spot (Some (Set bits)) = refl
signed_value_moves z g o spot (Some (Scalar a)) = signed_scalar_moves z g o spot a

pub with_sign_moves : (z : Exchange) (g : Gathers) (o : Sign) (spot : Pos) (x : Result Value g.Reported)
    → with_sign g o spot (map_ok (moved_value z) x) ≡ map_ok (moved_value z) (with_sign g o spot x)
with_sign_moves z g o spot x = simp (signed_value_moves, operand_of_moves, then_map, map_then)

pub negated_value_moves : (z : Exchange) (g : Gathers) (spot : Pos) (a1 : Option Operand)
    → negated_value g spot (option_map (moved_operand z) a1) ≡ map_ok (moved_value z) (negated_value g spot a1)
negated_value_moves z g spot None = refl
negated_value_moves z g spot (Some (Set bits)) = refl
negated_value_moves z g spot (Some (Scalar a)) = simp (is_truth_moves, truth_moves, where_moves)

pub negation_moves : (z : Exchange) (g : Gathers) (spot : Pos) (x : Result Value g.Reported)
    → negation g spot (map_ok (moved_value z) x) ≡ map_ok (moved_value z) (negation g spot x)
negation_moves z g spot x = simp (negated_value_moves, operand_of_moves, then_map, map_then)
