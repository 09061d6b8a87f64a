-- Arguments against formals.
use Rattle.std.specs.Prelude.{ℕ, ℤ, pos, Bool, false, not, ◌&&◌, cond, List, [], ◌∷◌, ◌++◌, Option, Some, None, Result, Ok}
use Rattle.m2_rule.specs.declared.rule.Rule.TheVariants as rule
use Rattle.m2_tree.specs.declared.pos.Pos.{Pos}
use Rattle.typed_tree.specs.declared.types.TypeNo.{TypeNo}
use Rattle.typed_tree.specs.declared.computed.Argument.{Argument}
use Rattle.typed_tree.specs.declared.computed.Argument.TheVariants as argument
use Rattle.typed_tree.specs.declared.meaning.Value.{Value}
use Rattle.typed_tree.specs.declared.meaning.Value.TheVariants as constant
use Rattle.typed_tree.specs.declared.shape.Formal.{Formal}
use Rattle.typed_tree.specs.declared.shape.Scalar.{Scalar as Range}
use Rattle.typed_tree.specs.declared.known_types.Types.{Types}
use Rattle.typed_tree.specs.Types.{are_same, char}
use Rattle.typed_tree.specs.Known.{scalar_at}
use Rattle.check_scope.specs.Elaborated.{Gathers, report, reported_where, both, ◌▷◌}
use Rattle.check_const.specs.Numbers.{is_between}
use Rattle.check_value.specs.declared.class.Class.{Class}
use Rattle.check_value.specs.declared.class.Class.TheVariants as class
use Rattle.check_value.specs.declared.computed.Computed.{Computed}
use Rattle.check_value.specs.declared.computed.Computed.TheVariants as value
use Rattle.check_value.specs.declared.computed.Designated.{Designated}
use Rattle.check_value.specs.declared.computed.Designated.TheVariants as designated
use Rattle.check_value.specs.Classes.{class_at, array_at}
use Rattle.check_value.specs.Values.{value_at_place}
use Rattle.check_value.specs.Suits.{value_suited}

-- ---- arrays for ARRAY OF: the least index has number 0

abbrev pub starts_at_zero : Option Range → Bool
starts_at_zero None = false
starts_at_zero (Some s) = is_between (pos 0) s.low (pos 0)

abbrev pub elements_suit_in : Types → TypeNo → Option (TypeNo × TypeNo) → Bool
elements_suit_in types t None = false
elements_suit_in types t (Some a) = are_same a.1 t && starts_at_zero (scalar_at types a.0)

abbrev pub elements_suit : Types → TypeNo → (array : TypeNo) → Bool
elements_suit types t u = elements_suit_in types t (array_at types u)

-- ---- VAR formals: a variable of the same type

abbrev pub variable_passed : (g : Gathers) → TypeNo → Pos → Designated → Result Argument g.Reported
variable_passed g t at (designated.Variable u d) =
    reported_where g (not (are_same u t)) at rule.NoVariable (Ok (argument.Place d))
variable_passed g t at (designated.Value x) = report g at rule.NoVariable
variable_passed g t at (designated.Open u slot) = report g at rule.NoVariable
variable_passed g t at (designated.Type u) = report g at rule.NoVariable
variable_passed g t at (designated.Procedure p) = report g at rule.NoVariable
variable_passed g t at (designated.Nested p) = report g at rule.NoVariable
variable_passed g t at (designated.Standard f) = report g at rule.NoVariable
variable_passed g t at (designated.Module k) = report g at rule.NoVariable

abbrev pub open_passed : (g : Gathers) → Types → TypeNo → Pos → Designated
    → Result Argument g.Reported
open_passed g types t at (designated.Variable u d) =
    reported_where g (not (elements_suit types t u)) at rule.NoVariable (Ok (argument.Array u d))
open_passed g types t at (designated.Open u slot) =
    reported_where g (not (are_same u t)) at rule.NoVariable (Ok (argument.Open slot))
open_passed g types t at (designated.Value x) = report g at rule.NoVariable
open_passed g types t at (designated.Type u) = report g at rule.NoVariable
open_passed g types t at (designated.Procedure p) = report g at rule.NoVariable
open_passed g types t at (designated.Nested p) = report g at rule.NoVariable
open_passed g types t at (designated.Standard f) = report g at rule.NoVariable
open_passed g types t at (designated.Module k) = report g at rule.NoVariable

-- ---- value formals

abbrev pub text_argument : (g : Gathers) → TypeNo → Pos → Value → Result Argument g.Reported
text_argument g t at (constant.Text text) =
    reported_where g (not (are_same t char)) at rule.WrongArgument (Ok (argument.Text text))
text_argument g t at (constant.Number n) = report g at rule.WrongArgument
text_argument g t at (constant.Scalar s) = report g at rule.WrongArgument
text_argument g t at (constant.Set bits) = report g at rule.WrongArgument

abbrev pub text_passed : (g : Gathers) → TypeNo → Pos → Computed → Result Argument g.Reported
text_passed g t at (value.Constant v) = text_argument g t at v
text_passed g t at (value.Scalar u b e) = report g at rule.WrongArgument
text_passed g t at (value.Set e) = report g at rule.WrongArgument
text_passed g t at (value.Routine u e) = report g at rule.WrongArgument
text_passed g t at (value.Procedure p) = report g at rule.WrongArgument
text_passed g t at (value.Whole u d) = report g at rule.WrongArgument
text_passed g t at value.Untaken = report g at rule.WrongArgument

-- an open array, an array, or a string if the elements are CHAR
abbrev pub open_value : (g : Gathers) → Types → TypeNo → Pos → Designated
    → Result Argument g.Reported
open_value g types t at (designated.Variable u d) =
    reported_where g (not (elements_suit types t u)) at rule.WrongArgument (Ok (argument.Array u d))
open_value g types t at (designated.Open u slot) =
    reported_where g (not (are_same u t)) at rule.WrongArgument (Ok (argument.Open slot))
open_value g types t at (designated.Value x) = text_passed g t at x
open_value g types t at (designated.Type u) = report g at rule.WrongType
open_value g types t at (designated.Procedure p) = report g at rule.WrongArgument
open_value g types t at (designated.Nested p) = report g at rule.NoProcedureValue
open_value g types t at (designated.Standard f) = report g at rule.NoProcedureValue
open_value g types t at (designated.Module k) = report g at rule.WrongType

-- for an array or a record a variable of the same type
abbrev pub whole_passed : (g : Gathers) → TypeNo → Pos → Designated → Result Argument g.Reported
whole_passed g t at (designated.Variable u d) =
    reported_where g (not (are_same u t)) at rule.WrongArgument (Ok (argument.Place d))
whole_passed g t at (designated.Value x) = report g at rule.WrongArgument
whole_passed g t at (designated.Open u slot) = report g at rule.WrongArgument
whole_passed g t at (designated.Type u) = report g at rule.WrongType
whole_passed g t at (designated.Procedure p) = report g at rule.WrongArgument
whole_passed g t at (designated.Nested p) = report g at rule.NoProcedureValue
whole_passed g t at (designated.Standard f) = report g at rule.NoProcedureValue
whole_passed g t at (designated.Module k) = report g at rule.WrongType

-- else what is assignment compatible
abbrev pub simple_passed : (g : Gathers) → Types → TypeNo → Pos → Designated
    → Result Argument g.Reported
simple_passed g types t at d =
    value_at_place g types at d ▷ λ x.
    value_suited g rule.WrongArgument types t at x ▷ λ e.
    Ok (argument.Value t e)

abbrev pub passed_as : (g : Gathers) → Types → TypeNo → Pos → Designated → Class
    → Result Argument g.Reported
passed_as g types t at d (class.Scalar s) = simple_passed g types t at d
passed_as g types t at d class.Set = simple_passed g types t at d
passed_as g types t at d class.Procedure = simple_passed g types t at d
passed_as g types t at d class.Whole = whole_passed g t at d

abbrev pub value_passed : (g : Gathers) → Types → TypeNo → Pos → Designated
    → Result Argument g.Reported
value_passed g types t at d = passed_as g types t at d (class_at types t)

-- ---- an argument at a place, for a formal

abbrev pub actual : (g : Gathers) → Types → Formal → Pos → Designated → Result Argument g.Reported
actual g types f at d =
    cond f.is_var
    (cond f.is_open (open_passed g types f.of at d) (variable_passed g f.of at d))
    (cond f.is_open (open_value g types f.of at d) (value_passed g types f.of at d))

-- ---- one after the other

abbrev pub next_formal : List Formal → Option Formal × List Formal
next_formal [] = (None, [])
next_formal (f ∷ fs) = (Some f, fs)

abbrev pub with_argument : (g : Gathers) → Result (List Argument) g.Reported
    → Result Argument g.Reported → Result (List Argument) g.Reported
with_argument g so x = both g so x ▷ λ p. Ok (p.0 ++ p.1 ∷ [])
