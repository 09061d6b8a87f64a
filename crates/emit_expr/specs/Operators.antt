-- The parts of the code of operators.
use Rattle.std.specs.Prelude.{ℕ, pos, List, [], ◌∷◌, ◌++◌, Some, if◌then◌else◌}
use Rattle.wasm_tree.specs.declared.kinds.ValueType.TheVariants.{I64}
use Rattle.wasm_tree.specs.declared.instr.Instr.{Instr}
use Rattle.wasm_tree.specs.declared.instr.Instr.TheVariants.{LocalGet, LocalSet, I64Const}
use Rattle.wasm_tree.specs.declared.instr.Relation.TheVariants.{LtS, LeU}
use Rattle.wasm_tree.specs.declared.instr.Operation.TheVariants.{Sub, And, ShrU}
use Rattle.typed_tree.specs.declared.types.TypeNo.{TypeNo}
use Rattle.typed_tree.specs.declared.known_types.Types.{Types}
use Rattle.typed_tree.specs.Types.{are_same, integer}
use Rattle.def_meaning.specs.Answer.{overflow, range_fault}
use Rattle.def_scheme.specs.Coded.{Setting, number_local, relation, operation, check_code}
use Rattle.def_scheme.specs.Cells.{in_type}
use Rattle.def_scheme.specs.Exprs.{complement, empty_code, chosen_number, absolute_code, capital_code}
use Rattle.emit_buffer.specs.Drafts.{Drafted, one, put, open_draft, place_of, closed_if_else, next_number}

abbrev pub around_behind : List Instr
around_behind = operation And ∷ empty_code

abbrev pub within_behind : List Instr
within_behind = complement ++ around_behind

abbrev pub negated_behind : Types → List Instr
negated_behind types = operation Sub ∷ in_type types integer overflow

abbrev pub odd_code : List Instr
odd_code = I64Const 1 ∷ operation And ∷ []

abbrev pub char_check : List Instr
char_check = check_code (pos 0) (pos 255) range_fault

-- behind the first side of AND, which begins at a place
abbrev pub ending_and : (at : ℕ) → Drafted → Drafted
ending_and at d = closed_if_else at (place_of d) (Some I64) (one (I64Const 0) d)

-- before the second side of OR
abbrev pub begun_or : Drafted → Drafted
begun_or d = one (I64Const 1) (open_draft d)

-- an element of a set is kept
abbrev pub kept_element : Setting → Drafted → Drafted
kept_element s d =
    let e = put (check_code (pos 0) (pos 31) range_fault) d in
    one (LocalSet (number_local s e.counts.numbers)) (next_number e)

abbrev pub element_bit : ℕ → List Instr
element_bit t = LocalGet t ∷ operation ShrU ∷ I64Const 1 ∷ operation And ∷ []

-- ---- ABS and CAP

abbrev pub before_sign : ℕ → List Instr
before_sign t = LocalSet t ∷ LocalGet t ∷ I64Const 0 ∷ relation LtS ∷ []

abbrev pub negative : ℕ → List Instr
negative t = I64Const 0 ∷ LocalGet t ∷ operation Sub ∷ []

abbrev pub negative_or_same : ℕ → Instr
negative_or_same t = chosen_number (negative t) (LocalGet t ∷ [])

abbrev pub with_absolute : Setting → TypeNo → Drafted → Drafted
with_absolute s t d =
    if are_same t integer
    then put (absolute_code (number_local s d.counts.numbers)) (next_number d)
    else d

abbrev pub at_most_25 : List Instr
at_most_25 = I64Const 25 ∷ relation LeU ∷ []

abbrev pub before_letter : ℕ → List Instr
before_letter t = LocalSet t ∷ LocalGet t ∷ I64Const 97 ∷ operation Sub ∷ at_most_25

abbrev pub lift_word : ℕ → List Instr
lift_word t = LocalGet t ∷ I64Const 32 ∷ operation Sub ∷ []

abbrev pub lifted_or_same : ℕ → Instr
lifted_or_same t = chosen_number (lift_word t) (LocalGet t ∷ [])

abbrev pub with_capital : Setting → Drafted → Drafted
with_capital s d = put (capital_code (number_local s d.counts.numbers)) (next_number d)
