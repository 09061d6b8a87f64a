-- What assignments and standard procedures do.
use Rattle.std.specs.Prelude.{ℤ, pos, not, cond, int_lt, Option, Some, None, Result, Ok}
use Rattle.m2_rule.specs.declared.rule.Rule.TheVariants as rule
use Rattle.m2_tree.specs.declared.pos.Pos.{Pos}
use Rattle.typed_tree.specs.declared.types.TypeNo.{TypeNo}
use Rattle.typed_tree.specs.declared.computed.Place.{Place}
use Rattle.typed_tree.specs.declared.computed.TypedExpr.{TypedExpr}
use Rattle.typed_tree.specs.declared.computed.TypedExpr.TheVariants as expr
use Rattle.typed_tree.specs.declared.statement.Change.{Change}
use Rattle.typed_tree.specs.declared.statement.Membership.{Membership}
use Rattle.typed_tree.specs.declared.statement.TypedStmt.{TypedStmt}
use Rattle.typed_tree.specs.declared.statement.TypedStmt.TheVariants as step
use Rattle.typed_tree.specs.declared.known_types.Types.{Types}
use Rattle.typed_tree.specs.Types.{is_numeric, integer, cardinal, char}
use Rattle.check_scope.specs.declared.meaningless.Meaningless.{Meaningless}
use Rattle.check_scope.specs.Elaborated.{Gathers, report, reported_where, both, of_sort, ◌▷◌}
use Rattle.check_const.specs.declared.operand.Ordinal.{Ordinal}
use Rattle.check_const.specs.Numbers.{is_between}
use Rattle.check_const.specs.Standards.{whole_number}
use Rattle.check_value.specs.declared.class.Class.{Class}
use Rattle.check_value.specs.declared.class.Class.TheVariants as class
use Rattle.check_value.specs.declared.computed.Computed.{Computed}
use Rattle.check_value.specs.declared.computed.Computed.TheVariants as value
use Rattle.check_value.specs.declared.computed.Designated.{Designated}
use Rattle.check_value.specs.declared.computed.Designated.TheVariants as designated
use Rattle.check_value.specs.declared.places.Accepted.{Accepted}
use Rattle.check_value.specs.declared.places.Accepted.TheVariants as accepted
use Rattle.check_value.specs.Classes.{class_at}
use Rattle.check_value.specs.Suits.{value_for_place, value_suited}
use Rattle.check_value.specs.declared.effect.Target.{Target}
use Rattle.check_value.specs.declared.effect.Target.TheVariants as target

-- ---- assignments

-- the left side is a variable
abbrev pub target_of : (g : Gathers) → Pos → Designated → Result Target g.Reported
target_of g at (designated.Variable t d) = Ok (target.Variable t d)
target_of g at (designated.Open t slot) = Ok target.Open
target_of g at (designated.Value x) = report g at rule.WrongType
target_of g at (designated.Type t) = report g at rule.WrongType
target_of g at (designated.Procedure p) = report g at rule.WrongType
target_of g at (designated.Nested p) = report g at rule.WrongType
target_of g at (designated.Standard f) = report g at rule.WrongType
target_of g at (designated.Module k) = report g at rule.WrongType

abbrev pub target_at : (g : Gathers) → Pos → Result Designated (Meaningless g.Reported)
    → Result Target g.Reported
target_at g at d = of_sort g at rule.WrongType d ▷ target_of g at

abbrev pub store_statement : TypeNo → Place → Accepted → TypedStmt
store_statement t d (accepted.Value e) = step.Assign d t e
store_statement t d (accepted.Whole from) = step.Copy d from t
store_statement t d (accepted.Text text) = step.CopyText d t text

-- nothing is assigned to an open array
abbrev pub assignment_to : (g : Gathers) → Types → Target → Pos → Computed
    → Result TypedStmt g.Reported
assignment_to g types target.Open at x = report g at rule.NotAssignable
assignment_to g types (target.Variable t d) at x =
    value_for_place g rule.NotAssignable types t at x ▷ λ a. Ok (store_statement t d a)

abbrev pub assignment_of : (g : Gathers) → Types → Result Target g.Reported → Pos
    → Result Computed g.Reported → Result TypedStmt g.Reported
assignment_of g types left at x = both g left x ▷ λ p. assignment_to g types p.0 at p.1

-- ---- INC and DEC: a scalar variable

abbrev pub change_target_as : (g : Gathers) → Pos → TypeNo → Place → Class
    → Result (TypeNo × Place) g.Reported
change_target_as g at t d (class.Scalar s) = Ok (t, d)
change_target_as g at t d class.Set = report g at rule.NoVariable
change_target_as g at t d class.Procedure = report g at rule.NoVariable
change_target_as g at t d class.Whole = report g at rule.NoVariable

abbrev pub change_target : (g : Gathers) → Types → Pos → Designated
    → Result (TypeNo × Place) g.Reported
change_target g types at (designated.Variable t d) = change_target_as g at t d (class_at types t)
change_target g types at (designated.Value x) = report g at rule.NoVariable
change_target g types at (designated.Open t slot) = report g at rule.NoVariable
change_target g types at (designated.Type t) = report g at rule.NoVariable
change_target g types at (designated.Procedure p) = report g at rule.NoVariable
change_target g types at (designated.Nested p) = report g at rule.NoVariable
change_target g types at (designated.Standard f) = report g at rule.NoVariable
change_target g types at (designated.Module k) = report g at rule.NoVariable

-- a number for which nothing is asked is an INTEGER if it is negative
abbrev pub type_of_number : ℤ → Option TypeNo → TypeNo
type_of_number n None = cond (int_lt n (pos 0)) integer cardinal
type_of_number n (Some t) = t

abbrev pub known_amount : (g : Gathers) → Pos → Option Ordinal → Result TypedExpr g.Reported
known_amount g at None = report g at rule.WrongArgument
known_amount g at (Some a) = Ok (expr.Constant (type_of_number a.number a.sort) a.number)

-- an INTEGER, a CARDINAL or a number
abbrev pub amount : (g : Gathers) → Pos → Computed → Result TypedExpr g.Reported
amount g at (value.Constant v) = known_amount g at (whole_number v)
amount g at (value.Scalar t b e) =
    reported_where g (not (is_numeric b)) at rule.WrongArgument (Ok e)
amount g at (value.Set e) = report g at rule.WrongArgument
amount g at (value.Routine t e) = report g at rule.WrongArgument
amount g at (value.Procedure p) = report g at rule.WrongArgument
amount g at (value.Whole t d) = report g at rule.WrongArgument
amount g at value.Untaken = report g at rule.WrongArgument

abbrev pub change_by : (g : Gathers) → Change → Result (TypeNo × Place) g.Reported
    → Result TypedExpr g.Reported → Result TypedStmt g.Reported
change_by g o variable by = both g variable by ▷ λ p. Ok (step.Change o p.0.1 p.0.0 p.1)

-- ---- INCL and EXCL: a BITSET variable, and an element from 0 to 31

abbrev pub set_as : (g : Gathers) → Pos → Place → Class → Result Place g.Reported
set_as g at d class.Set = Ok d
set_as g at d (class.Scalar s) = report g at rule.NoVariable
set_as g at d class.Procedure = report g at rule.NoVariable
set_as g at d class.Whole = report g at rule.NoVariable

abbrev pub set_variable : (g : Gathers) → Types → Pos → Designated → Result Place g.Reported
set_variable g types at (designated.Variable t d) = set_as g at d (class_at types t)
set_variable g types at (designated.Value x) = report g at rule.NoVariable
set_variable g types at (designated.Open t slot) = report g at rule.NoVariable
set_variable g types at (designated.Type t) = report g at rule.NoVariable
set_variable g types at (designated.Procedure p) = report g at rule.NoVariable
set_variable g types at (designated.Nested p) = report g at rule.NoVariable
set_variable g types at (designated.Standard f) = report g at rule.NoVariable
set_variable g types at (designated.Module k) = report g at rule.NoVariable

abbrev pub element_known : (g : Gathers) → Pos → Option Ordinal → Result TypedExpr g.Reported
element_known g at None = report g at rule.WrongArgument
element_known g at (Some a) =
    reported_where g (not (is_between (pos 0) a.number (pos 31))) at rule.OutOfRange
    (Ok (expr.Constant (type_of_number a.number a.sort) a.number))

abbrev pub set_element : (g : Gathers) → Pos → Computed → Result TypedExpr g.Reported
set_element g at (value.Constant v) = element_known g at (whole_number v)
set_element g at (value.Scalar t b e) =
    reported_where g (not (is_numeric b)) at rule.WrongArgument (Ok e)
set_element g at (value.Set e) = report g at rule.WrongArgument
set_element g at (value.Routine t e) = report g at rule.WrongArgument
set_element g at (value.Procedure p) = report g at rule.WrongArgument
set_element g at (value.Whole t d) = report g at rule.WrongArgument
set_element g at value.Untaken = report g at rule.WrongArgument

abbrev pub membership_of : (g : Gathers) → Membership → Result Place g.Reported
    → Result TypedExpr g.Reported → Result TypedStmt g.Reported
membership_of g o set x = both g set x ▷ λ p. Ok (step.Membership o p.0 p.1)

-- ---- Put: a CHAR

abbrev pub put : (g : Gathers) → Types → Pos → Computed → Result TypedStmt g.Reported
put g types at x = value_suited g rule.WrongArgument types char at x ▷ λ e. Ok (step.Put e)
