-- Standards of check_const, with other numbers of modules.
use Rattle.check_const.specs.Standards.{whole_number, if_number, odd_part, capital_part, ordinal_part, conversion_of, absolute_part, is_odd, ordinal_of, converted_part, scalar_part, character, character_part, is_char, absolute, bound_of, upper, capital}
use Rattle.check_const.specs.declared.operand.Operand.{Operand}
use Rattle.check_const.specs.declared.operand.Ordinal.{Ordinal}
use Rattle.check_const.specs.declared.operator.BinaryOp.TheVariants.{Minus}
use Rattle.check_scope.specs.Elaborated.{Gathers}
use Rattle.def_exchange.specs.Moved.{moved_scalar, moved_type, moved_value, Exchange}
use Rattle.law_exchange_types.proofs.Basics.{cond_some, cond_ok, same_moves as are_same_moves, where_moves}
use Rattle.law_exchange_types.proofs.Numbers.{evaluated_at_moves, number_at_moves}
use Rattle.law_exchange_types.proofs.Operands.{is_number_moves, operand_of_moves, number_value_moves, truth_moves}
use Rattle.law_exchange_types.specs.Constants.{moved_operand, moved_ordinal}
use Rattle.law_exchange_types.specs.Pieces.{map_ok}
use Rattle.m2_tree.specs.declared.pos.Pos.{Pos}
use Rattle.std.proofs.Common.{◌≡◌, refl, None, Option, Some, option_map, pos, ℤ}
use Rattle.typed_tree.specs.Types.{cardinal, char}
use Rattle.typed_tree.specs.declared.meaning.Value.{Value}
use Rattle.typed_tree.specs.declared.shape.Scalar.{Scalar}
use Rattle.typed_tree.specs.declared.types.TypeNo.{TypeNo}
use Rattle.check_const.specs.declared.operand.Operand.TheVariants as operands

pub scalar_part_moves : (z : Exchange) (a0 : Option Operand)
    → scalar_part (option_map (moved_operand z) a0) ≡ option_map (moved_ordinal z) (scalar_part a0)
scalar_part_moves z None = refl
scalar_part_moves z (Some (operands.Set bits)) = refl
scalar_part_moves z (Some (operands.Scalar a)) = refl

pub if_number_moves : (z : Exchange) (a0 : Option Ordinal)
    → if_number (option_map (moved_ordinal z) a0) ≡ option_map (moved_ordinal z) (if_number a0)
if_number_moves z None = refl
if_number_moves z (Some a) = simp (is_number_moves, cond_some)

pub whole_number_moves : (z : Exchange) (v : Value)
    → whole_number (moved_value z v) ≡ option_map (moved_ordinal z) (whole_number v)
whole_number_moves z v = simp (if_number_moves, scalar_part_moves, operand_of_moves)

pub absolute_part_moves : (z : Exchange) (g : Gathers) (at : Pos) (a1 : Option Ordinal)
    → absolute_part g at (option_map (moved_ordinal z) a1) ≡ map_ok (moved_value z) (absolute_part g at a1)
absolute_part_moves z g at None = refl
absolute_part_moves z g at (Some a) = simp
    (evaluated_at_moves z g at a.sort Minus (pos 0) a.number, number_at_moves, cond_ok)

pub absolute_moves : (z : Exchange) (g : Gathers) (at : Pos) (v : Value)
    → absolute g at (moved_value z v) ≡ map_ok (moved_value z) (absolute g at v)
absolute_moves z g at v = simp (absolute_part_moves, whole_number_moves)

pub is_char_moves : (z : Exchange) (a0 : Option TypeNo)
    → is_char (option_map (moved_type z) a0) ≡ is_char a0
is_char_moves z None = refl
is_char_moves z (Some t) = are_same_moves z t char

pub capital_part_moves : (z : Exchange) (g : Gathers) (at : Pos) (a1 : Option Ordinal)
    → capital_part g at (option_map (moved_ordinal z) a1) ≡ map_ok (moved_value z) (capital_part g at a1)
capital_part_moves z g at None = refl
capital_part_moves z g at (Some a) = simp
    (is_char_moves, number_value_moves z (Some char) (upper a.number), where_moves)

pub capital_moves : (z : Exchange) (g : Gathers) (at : Pos) (v : Value)
    → capital g at (moved_value z v) ≡ map_ok (moved_value z) (capital g at v)
capital_moves z g at v = simp (capital_part_moves, scalar_part_moves, operand_of_moves)

pub character_part_moves : (z : Exchange) (g : Gathers) (at : Pos) (a1 : Option Ordinal)
    → character_part g at (option_map (moved_ordinal z) a1) ≡ map_ok (moved_value z) (character_part g at a1)
character_part_moves z g at None = refl
character_part_moves z g at (Some a) = simp (number_value_moves z (Some char) a.number, where_moves)

pub character_moves : (z : Exchange) (g : Gathers) (at : Pos) (v : Value)
    → character g at (moved_value z v) ≡ map_ok (moved_value z) (character g at v)
character_moves z g at v = simp (character_part_moves, whole_number_moves)

pub odd_part_moves : (z : Exchange) (g : Gathers) (at : Pos) (a1 : Option Ordinal)
    → odd_part g at (option_map (moved_ordinal z) a1) ≡ map_ok (moved_value z) (odd_part g at a1)
odd_part_moves z g at None = refl
odd_part_moves z g at (Some a) = simp (truth_moves)

pub is_odd_moves : (z : Exchange) (g : Gathers) (at : Pos) (v : Value)
    → is_odd g at (moved_value z v) ≡ map_ok (moved_value z) (is_odd g at v)
is_odd_moves z g at v = simp (odd_part_moves, whole_number_moves)

pub ordinal_part_moves : (z : Exchange) (g : Gathers) (at : Pos) (a1 : Option Ordinal)
    → ordinal_part g at (option_map (moved_ordinal z) a1) ≡ map_ok (moved_value z) (ordinal_part g at a1)
ordinal_part_moves z g at None = refl
ordinal_part_moves z g at (Some a) = number_at_moves z g at (Some cardinal) a.number

pub ordinal_of_moves : (z : Exchange) (g : Gathers) (at : Pos) (v : Value)
    → ordinal_of g at (moved_value z v) ≡ map_ok (moved_value z) (ordinal_of g at v)
ordinal_of_moves z g at v = simp (ordinal_part_moves, scalar_part_moves, operand_of_moves)

pub bound_of_moves : (z : Exchange) (t : TypeNo) (s : Scalar) (n : ℤ)
    → bound_of (moved_type z t) (moved_scalar z s) n ≡ moved_value z (bound_of t s n)
bound_of_moves z t s n = refl

pub converted_part_moves : (z : Exchange) (g : Gathers) (t : TypeNo) (s : Scalar) (at : Pos) (a3 : Option Ordinal)
    → converted_part g (moved_type z t) (moved_scalar z s) at (option_map (moved_ordinal z) a3)
    ≡ map_ok (moved_value z) (converted_part g t s at a3)
converted_part_moves z g t s at None = refl
converted_part_moves z g t s at (Some a) = simp (bound_of_moves, where_moves)

pub conversion_of_moves : (z : Exchange) (g : Gathers) (t : TypeNo) (s : Scalar) (at : Pos) (v : Value)
    → conversion_of g (moved_type z t) (moved_scalar z s) at (moved_value z v)
    ≡ map_ok (moved_value z) (conversion_of g t s at v)
conversion_of_moves z g t s at v = simp (converted_part_moves, whole_number_moves)
