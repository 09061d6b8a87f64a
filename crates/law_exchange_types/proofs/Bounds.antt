-- Bounds of check_const, with other numbers of modules.
use Rattle.check_const.specs.Bounds.{fits_base, ordered_if, ordinal_in, is_of_base, are_ordered}
use Rattle.check_const.specs.declared.operand.Operand.{Operand}
use Rattle.check_const.specs.declared.operand.Ordinal.{Ordinal}
use Rattle.check_scope.specs.Elaborated.{Gathers}
use Rattle.def_exchange.specs.Moved.{moved_type, Exchange}
use Rattle.law_exchange_types.proofs.Basics.{same_moves as are_same_moves, then_map, both_moves}
use Rattle.law_exchange_types.proofs.Common.{common_moves}
use Rattle.law_exchange_types.proofs.Numbers.{fits_moves}
use Rattle.law_exchange_types.proofs.Numeric.{is_numeric_moves}
use Rattle.law_exchange_types.specs.Constants.{moved_operand, moved_ordinal}
use Rattle.law_exchange_types.specs.Pieces.{map_ok}
use Rattle.m2_tree.specs.declared.pos.Pos.{Pos}
use Rattle.std.proofs.Common.{◌≡◌, refl, None, Option, Result, Some, option_map, ℤ}
use Rattle.typed_tree.specs.declared.types.TypeNo.{TypeNo}
use Rattle.check_const.specs.declared.operand.Operand.TheVariants as operands

pub ordinal_in_moves : (z : Exchange) (g : Gathers) (at : Pos) (a1 : Option Operand)
    → ordinal_in g at (option_map (moved_operand z) a1) ≡ map_ok (moved_ordinal z) (ordinal_in g at a1)
ordinal_in_moves z g at None = refl
ordinal_in_moves z g at (Some (operands.Set bits)) = refl
ordinal_in_moves z g at (Some (operands.Scalar a)) = refl

pub is_of_base_moves : (z : Exchange) (base : TypeNo) (a1 : Option TypeNo)
    → is_of_base (moved_type z base) (option_map (moved_type z) a1) ≡ is_of_base base a1
is_of_base_moves z base None = is_numeric_moves z base
is_of_base_moves z base (Some t) = are_same_moves z t base

pub fits_base_moves : (z : Exchange) (g : Gathers) (at : Pos) (base : TypeNo) (a2 : Option TypeNo) (n : ℤ)
    → fits_base g at (moved_type z base) (option_map (moved_type z) a2) n ≡ fits_base g at base a2 n
fits_base_moves z g at base (Some t) n = refl
fits_base_moves z g at base None n = simp (fits_moves z (Some base) n)

pub ordered_if_moves : (z : Exchange) (g : Gathers) (at : Pos) (a : Ordinal) (b : Ordinal) (a3 : Option (Option TypeNo))
    → ordered_if g at (moved_ordinal z a) (moved_ordinal z b) (option_map (option_map (moved_type z)) a3)
    ≡ ordered_if g at a b a3
ordered_if_moves z g at a b None = refl
ordered_if_moves z g at a b (Some sort) = refl

pub are_ordered_moves : (z : Exchange) (g : Gathers) (at : Pos) (a : Result Ordinal g.Reported)
    (b : Result Ordinal g.Reported)
    → are_ordered g at (map_ok (moved_ordinal z) a) (map_ok (moved_ordinal z) b) ≡ are_ordered g at a b
are_ordered_moves z g at a b = simp (ordered_if_moves, common_moves, then_map, both_moves)
