-- Sides of check_value, with other numbers of modules.
use Rattle.check_const.specs.declared.operand.Operand.{Operand}
use Rattle.check_value.specs.Sides.{known_of, side_of, run_of, constant_side, or_cardinal, sort_of}
use Rattle.check_value.specs.declared.computed.Computed.{Computed}
use Rattle.check_value.specs.declared.side.Amount.{Amount}
use Rattle.check_value.specs.declared.side.Amount.TheVariants.{Known, Run}
use Rattle.def_exchange.specs.Moved.{moved_type, Exchange}
use Rattle.law_exchange_types.proofs.Operands.{operand_of_moves}
use Rattle.law_exchange_types.proofs.Trees.{expr_Constant}
use Rattle.law_exchange_types.specs.Constants.{moved_operand}
use Rattle.law_exchange_types.specs.Trees.{moved_expr}
use Rattle.law_exchange_types.specs.Values.{moved_amount, moved_computed, moved_side}
use Rattle.std.proofs.Common.{◌≡◌, refl, None, Option, Some, option_map, pos}
use Rattle.typed_tree.specs.Types.{bitset}
use Rattle.typed_tree.specs.declared.types.TypeNo.{TypeNo}
use Rattle.check_const.specs.declared.operand.Operand.TheVariants as operand
use Rattle.check_value.specs.declared.computed.Computed.TheVariants as value

pub known_of_moves : (z : Exchange) (a0 : Computed)
    → known_of (moved_computed z a0) ≡ option_map (moved_operand z) (known_of a0)
known_of_moves z (value.Constant v) = operand_of_moves z v
known_of_moves z (value.Scalar t b e) = refl
known_of_moves z (value.Set e) = refl
known_of_moves z (value.Routine t e) = refl
known_of_moves z (value.Procedure p) = refl
known_of_moves z (value.Whole t d) = refl
known_of_moves z value.Untaken = refl

pub constant_side_moves : (z : Exchange) (a0 : Option Operand)
    → constant_side (option_map (moved_operand z) a0) ≡ option_map (moved_side z) (constant_side a0)
constant_side_moves z None = refl
constant_side_moves z (Some (operand.Scalar a)) = refl
constant_side_moves z (Some (operand.Set bits)) = simp (expr_Constant z bitset (pos bits))

pub side_of_moves : (z : Exchange) (a0 : Computed)
    → side_of (moved_computed z a0) ≡ option_map (moved_side z) (side_of a0)
side_of_moves z (value.Constant v) = simp (constant_side_moves, operand_of_moves)
side_of_moves z (value.Scalar t b e) = refl
side_of_moves z (value.Set e) = refl
side_of_moves z (value.Routine t e) = refl
side_of_moves z (value.Procedure p) = refl
side_of_moves z (value.Whole t d) = refl
side_of_moves z value.Untaken = refl

pub sort_of_moves : (z : Exchange) (a0 : Amount)
    → sort_of (moved_amount z a0) ≡ option_map (moved_type z) (sort_of a0)
sort_of_moves z (Known a) = refl
sort_of_moves z (Run b e) = refl

pub or_cardinal_moves : (z : Exchange) (a0 : Option TypeNo)
    → or_cardinal (option_map (moved_type z) a0) ≡ moved_type z (or_cardinal a0)
or_cardinal_moves z None = refl
or_cardinal_moves z (Some t) = refl

pub run_of_moves : (z : Exchange) (t : TypeNo) (a1 : Amount)
    → run_of (moved_type z t) (moved_amount z a1) ≡ moved_expr z (run_of t a1)
run_of_moves z t (Known a) = simp (expr_Constant)
run_of_moves z t (Run b e) = refl
