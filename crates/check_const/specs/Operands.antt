-- Constants as operators see them.
use Rattle.std.specs.Prelude.{ℕ, ℤ, pos, Bool, true, false, cond, List, [], ◌∷◌, Option, Some, None}
use Rattle.typed_tree.specs.declared.types.TypeNo.{TypeNo}
use Rattle.typed_tree.specs.declared.meaning.Value.{Value}
use Rattle.typed_tree.specs.declared.meaning.Value.TheVariants as value
use Rattle.typed_tree.specs.Types.{are_same, is_numeric, boolean, char}
use Rattle.check_const.specs.declared.operand.Operand.{Operand}
use Rattle.check_const.specs.declared.operand.Operand.TheVariants.{Scalar, Set}

-- the character that a string of length 1 is
abbrev pub letter : List ℕ → Option ℕ
letter [] = None
letter (c ∷ []) = Some c
letter (c ∷ d ∷ text) = None

abbrev pub scalar_operand : Option TypeNo → ℤ → Operand
scalar_operand sort n = Scalar (record { sort = sort; number = n })

abbrev pub letter_operand : Option ℕ → Option Operand
letter_operand None = None
letter_operand (Some c) = Some (scalar_operand (Some char) (pos c))

-- a scalar in its base type, or a set; other strings are no operands
abbrev pub operand_of : Value → Option Operand
operand_of (value.Number n) = Some (scalar_operand None n)
operand_of (value.Scalar s) = Some (scalar_operand (Some s.base) s.number)
operand_of (value.Set bits) = Some (Set bits)
operand_of (value.Text text) = letter_operand (letter text)

abbrev pub number_value : Option TypeNo → ℤ → Value
number_value None n = value.Number n
number_value (Some t) n = value.Scalar (record { of = t; base = t; number = n })

abbrev pub truth : Bool → Value
truth b = number_value (Some boolean) (cond b (pos 1) (pos 0))

-- INTEGER, CARDINAL or a number without a type
abbrev pub is_number : Option TypeNo → Bool
is_number None = true
is_number (Some t) = is_numeric t

abbrev pub is_truth : Option TypeNo → Bool
is_truth None = false
is_truth (Some t) = are_same t boolean
