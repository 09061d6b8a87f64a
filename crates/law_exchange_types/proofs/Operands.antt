-- Operands of check_const, with other numbers of modules.
use Rattle.check_const.specs.Operands.{is_number, truth, operand_of, scalar_operand, number_value, is_truth, letter_operand}
use Rattle.def_exchange.specs.Moved.{moved_type, moved_value, Exchange}
use Rattle.law_exchange_types.proofs.Basics.{same_moves as are_same_moves}
use Rattle.law_exchange_types.proofs.Numeric.{is_numeric_moves}
use Rattle.law_exchange_types.specs.Constants.{moved_operand}
use Rattle.std.proofs.Common.{◌≡◌, refl, Bool, None, Option, Some, cond, option_map, pos, ℕ, ℤ}
use Rattle.typed_tree.specs.Types.{boolean, char}
use Rattle.typed_tree.specs.declared.meaning.Value.{Value}
use Rattle.typed_tree.specs.declared.types.TypeNo.{TypeNo}
use Rattle.typed_tree.specs.declared.meaning.Value.TheVariants as value

pub scalar_operand_moves : (z : Exchange) (sort : Option TypeNo) (n : ℤ)
    → scalar_operand (option_map (moved_type z) sort) n ≡ moved_operand z (scalar_operand sort n)
scalar_operand_moves z sort n = refl

pub letter_operand_moves : (z : Exchange) (a0 : Option ℕ)
    → option_map (moved_operand z) (letter_operand a0) ≡ letter_operand a0
letter_operand_moves z None = refl
letter_operand_moves z (Some c) = simp (scalar_operand_moves z (Some char) (pos c))

pub operand_of_moves : (z : Exchange) (a0 : Value)
    → operand_of (moved_value z a0) ≡ option_map (moved_operand z) (operand_of a0)
operand_of_moves z (value.Number n) = simp (scalar_operand_moves z None n)
operand_of_moves z (value.Scalar s) = simp (scalar_operand_moves z (Some s.base) s.number)
operand_of_moves z (value.Set bits) = refl
operand_of_moves z (value.Text text) = simp (letter_operand_moves)

pub number_value_moves : (z : Exchange) (a0 : Option TypeNo) (n : ℤ)
    → number_value (option_map (moved_type z) a0) n ≡ moved_value z (number_value a0 n)
number_value_moves z None n = refl
number_value_moves z (Some t) n = refl

pub truth_moves : (z : Exchange) (b : Bool)
    → moved_value z (truth b) ≡ truth b
truth_moves z b = simp (number_value_moves z (Some boolean) (cond b (pos 1) (pos 0)))

pub is_number_moves : (z : Exchange) (a0 : Option TypeNo)
    → is_number (option_map (moved_type z) a0) ≡ is_number a0
is_number_moves z None = refl
is_number_moves z (Some t) = is_numeric_moves z t

pub is_truth_moves : (z : Exchange) (a0 : Option TypeNo)
    → is_truth (option_map (moved_type z) a0) ≡ is_truth a0
is_truth_moves z None = refl
is_truth_moves z (Some t) = are_same_moves z t boolean
