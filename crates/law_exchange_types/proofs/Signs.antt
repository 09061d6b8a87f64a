-- Signs of check_value, with other numbers of modules.
use Rattle.check_const.specs.Operate.{with_sign as signed_constant, negation as negated_constant}
use Rattle.check_scope.specs.Elaborated.{Gathers}
use Rattle.check_value.specs.Signs.{signed_value, negation, signed_scalar, negated_value, with_sign, negated_scalar}
use Rattle.check_value.specs.declared.computed.Computed.{Computed}
use Rattle.def_exchange.specs.Moved.{moved_type, Exchange}
use Rattle.law_exchange_types.proofs.Basics.{where_moves, then_map, map_then, same_moves as are_same_moves}
use Rattle.law_exchange_types.proofs.Numeric.{is_numeric_moves, is_integer_moves}
use Rattle.law_exchange_types.proofs.Operate.{with_sign_moves as signed_constant_moves, negation_moves as negated_constant_moves}
use Rattle.law_exchange_types.proofs.Operations.{of_value_moves}
use Rattle.law_exchange_types.proofs.Trees.{expr_Plus, expr_Negate, expr_Not}
use Rattle.law_exchange_types.specs.Pieces.{map_ok}
use Rattle.law_exchange_types.specs.Trees.{moved_expr}
use Rattle.law_exchange_types.specs.Values.{moved_computed}
use Rattle.m2_tree.specs.declared.expr.Sign.{Sign}
use Rattle.m2_tree.specs.declared.pos.Pos.{Pos}
use Rattle.std.proofs.Common.{◌≡◌, refl, Ok, Result}
use Rattle.typed_tree.specs.Types.{boolean}
use Rattle.typed_tree.specs.declared.computed.TypedExpr.{TypedExpr}
use Rattle.typed_tree.specs.declared.types.TypeNo.{TypeNo}
use Rattle.m2_tree.specs.declared.expr.Sign.TheVariants as sign
use Rattle.check_value.specs.declared.computed.Computed.TheVariants as value

pub signed_scalar_moves : (z : Exchange) (g : Gathers) (a0 : Sign) (spot : Pos) (b : TypeNo) (e : TypedExpr)
    → signed_scalar g a0 spot (moved_type z b) (moved_expr z e)
    ≡ map_ok (moved_computed z) (signed_scalar g a0 spot b e)
signed_scalar_moves z g sign.Plus spot b e = simp (is_numeric_moves, expr_Plus, where_moves)
signed_scalar_moves z g sign.Minus spot b e = simp (is_integer_moves, expr_Negate, where_moves)

pub signed_value_moves : (z : Exchange) (g : Gathers) (o : Sign) (spot : Pos) (a2 : Computed)
    → signed_value g o spot (moved_computed z a2) ≡ map_ok (moved_computed z) (signed_value g o spot a2)
signed_value_moves z g o spot (value.Constant v) =
    simp (of_value_moves z (signed_constant g o spot (Ok v)), signed_constant_moves z g o spot (Ok v))
signed_value_moves z g o spot (value.Scalar t b e) = signed_scalar_moves z g o spot b e
signed_value_moves z g o spot (value.Set e) = refl
signed_value_moves z g o spot (value.Routine t e) = refl
signed_value_moves z g o spot (value.Procedure p) = refl
signed_value_moves z g o spot (value.Whole t d) = refl
signed_value_moves z g o spot value.Untaken = refl

pub with_sign_moves : (z : Exchange) (g : Gathers) (o : Sign) (spot : Pos) (x : Result Computed g.Reported)
    → with_sign g o spot (map_ok (moved_computed z) x) ≡ map_ok (moved_computed z) (with_sign g o spot x)
with_sign_moves z g o spot x = simp (signed_value_moves, then_map, map_then)

pub negated_scalar_moves : (z : Exchange) (g : Gathers) (spot : Pos) (b : TypeNo) (e : TypedExpr)
    → negated_scalar g spot (moved_type z b) (moved_expr z e) ≡ map_ok (moved_computed z) (negated_scalar g spot b e)
negated_scalar_moves z g spot b e = simp (are_same_moves z b boolean, expr_Not, where_moves)

pub negated_value_moves : (z : Exchange) (g : Gathers) (spot : Pos) (a1 : Computed)
    → negated_value g spot (moved_computed z a1) ≡ map_ok (moved_computed z) (negated_value g spot a1)
negated_value_moves z g spot (value.Constant v) =
    simp (of_value_moves z (negated_constant g spot (Ok v)), negated_constant_moves z g spot (Ok v))
negated_value_moves z g spot (value.Scalar t b e) = negated_scalar_moves z g spot b e
negated_value_moves z g spot (value.Set e) = refl
negated_value_moves z g spot (value.Routine t e) = refl
negated_value_moves z g spot (value.Procedure p) = refl
negated_value_moves z g spot (value.Whole t d) = refl
negated_value_moves z g spot value.Untaken = refl

pub negation_moves : (z : Exchange) (g : Gathers) (spot : Pos) (x : Result Computed g.Reported)
    → negation g spot (map_ok (moved_computed z) x) ≡ map_ok (moved_computed z) (negation g spot x)
negation_moves z g spot x = simp (negated_value_moves, then_map, map_then)
