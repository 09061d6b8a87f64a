-- Statements without others inside, and the parts of statements that stand before others.
use Rattle.std.specs.Prelude.{true, not, cond, List, [], ◌∷◌, ◌++◌, length, Option, Some, None, Result, Ok, Err}
use Rattle.std.specs.List.{fold}
use Rattle.std.specs.Option.{is_some}
use Rattle.m2_rule.specs.declared.rule.Rule.TheVariants as rule
use Rattle.m2_tree.specs.declared.pos.Pos.{Pos}
use Rattle.m2_tree.specs.declared.expr.Expr.{Expr}
use Rattle.m2_tree.specs.declared.expr.Expr.TheOpen as layer
use Rattle.m2_tree.specs.declared.expr.Selector.{Selector, Selector-F, out-Selector}
use Rattle.m2_tree.specs.declared.expr.Designator.{Designator as Designating, out-Designator}
use Rattle.m2_tree.specs.declared.expr.Item.{Item}
use Rattle.typed_tree.specs.declared.types.TypeNo.{TypeNo}
use Rattle.typed_tree.specs.declared.computed.Place.{Place}
use Rattle.typed_tree.specs.declared.computed.Root.TheVariants as root
use Rattle.typed_tree.specs.Chains.{root_place}
use Rattle.typed_tree.specs.declared.computed.TypedExpr.{TypedExpr}
use Rattle.typed_tree.specs.declared.computed.TypedExpr.TheVariants as expr
use Rattle.typed_tree.specs.declared.statement.TypedStmt.{TypedStmt}
use Rattle.typed_tree.specs.declared.statement.TypedStmt.TheVariants as step
use Rattle.typed_tree.specs.declared.known_types.Types.{Types}
use Rattle.typed_tree.specs.Types.{boolean}
use Rattle.check_scope.specs.Elaborated.{Gathers, report, reported_where, reported_beside, both, of_sort, ◌▷◌}
use Rattle.check_scope.specs.declared.scope.Scope.{Scope}
use Rattle.check_scope.specs.Scopes.{fields_at}
use Rattle.check_value.specs.declared.computed.Computed.{Computed}
use Rattle.check_value.specs.declared.computed.Designated.{Designated}
use Rattle.check_value.specs.declared.computed.Designated.TheVariants as designated
use Rattle.check_value.specs.declared.side.Amount.{Amount}
use Rattle.check_value.specs.declared.side.Amount.TheVariants.{Known, Run}
use Rattle.check_value.specs.declared.side.Side.{Side}
use Rattle.check_value.specs.declared.side.Side.TheVariants as side
use Rattle.check_value.specs.Classes.{array_at}
use Rattle.check_value.specs.Sides.{side_of}
use Rattle.check_value.specs.Suits.{value_suited}
use Rattle.check_value.specs.Effects.{type_of_number, target_at, assignment_of}
use Rattle.check_expr.specs.Meanings.{Meant, meanings_of, value_of, first_name, field_of}
use Rattle.check_stmt_parts.specs.declared.around.Around.{Around}

-- an expression, if one stands there
abbrev pub meant_if : (g : Gathers) → Option Expr → Option (Meant g.Reported)
meant_if g None = None
meant_if g (Some e) = Some (meanings_of g e)

-- ---- EXIT and RETURN

abbrev pub in_loop : {T : Type 0} → Around T → Around T
in_loop w = record { gives = w.gives; in_loop = true }

-- an EXIT stands in a LOOP
abbrev pub exit_statement : (g : Gathers) → Pos → Around g.Reported → Result TypedStmt g.Reported
exit_statement g at w = reported_where g (not w.in_loop) at rule.LonelyExit (Ok step.Exit)

-- a value is assignment compatible with the type of the result
abbrev pub given_back : (g : Gathers) → Types → Result TypeNo g.Reported → Pos
    → Result Computed g.Reported → Result TypedStmt g.Reported
given_back g types t at x =
    both g t x ▷ λ p. value_suited g rule.NotAssignable types p.0 at p.1 ▷ λ e. Ok (step.Give p.0 e)

-- functions alone give a value, and always
abbrev pub return_statement : (g : Gathers) → Scope g.Reported → Pos
    → Option (Result TypeNo g.Reported) → Option (Meant g.Reported) → Result TypedStmt g.Reported
return_statement g s at None None = Ok step.Return
return_statement g s at None (Some x) =
    reported_beside g at rule.WrongReturn (value_of g s x ▷ λ v. Ok tt)
return_statement g s at (Some t) None = report g at rule.WrongReturn
return_statement g s at (Some t) (Some x) = given_back g s.types t x.fixed.at (value_of g s x)

-- ---- conditions and assignments

abbrev pub condition : (g : Gathers) → Scope g.Reported → Meant g.Reported
    → Result TypedExpr g.Reported
condition g s x = value_of g s x ▷ value_suited g rule.WrongType s.types boolean x.fixed.at

abbrev pub assignment : (g : Gathers) → Scope g.Reported → Meant g.Reported → Meant g.Reported
    → Result TypedStmt g.Reported
assignment g s d x =
    assignment_of g s.types (target_at g d.fixed.at (d.means s)) x.fixed.at (value_of g s x)

-- ---- calls: no brackets are no arguments

abbrev pub or_none : {A : Type 0} → Option (List A) → List A
or_none None = []
or_none (Some xs) = xs

-- ---- the selector of a CASE: a scalar, with its base type; a number without a type is CARDINAL, a
-- negative one INTEGER

abbrev pub selector_amount : Amount → TypeNo × TypedExpr
selector_amount (Known a) =
    (type_of_number a.number a.sort, expr.Constant (type_of_number a.number a.sort) a.number)
selector_amount (Run b e) = (b, e)

abbrev pub selector_of : (g : Gathers) → Pos → Option Side → Result (TypeNo × TypedExpr) g.Reported
selector_of g at None = report g at rule.WrongType
selector_of g at (Some (side.Scalar a)) = Ok (selector_amount a)
selector_of g at (Some (side.Set e)) = report g at rule.WrongType
selector_of g at (Some (side.Routine t e)) = report g at rule.WrongType
selector_of g at (Some (side.Procedure p)) = report g at rule.WrongType

abbrev pub case_selector : (g : Gathers) → Scope g.Reported → Meant g.Reported
    → Result (TypeNo × TypedExpr) g.Reported
case_selector g s x = value_of g s x ▷ λ v. selector_of g x.fixed.at (side_of v)

-- ---- the record of a WITH, with its type

abbrev pub record_by : (g : Gathers) → Types → Pos → Designated → Result (TypeNo × Place) g.Reported
record_by g types at (designated.Variable t d) =
    reported_where g (not (is_some (fields_at types t))) at rule.WrongType (Ok (t, d))
record_by g types at (designated.Value x) = report g at rule.WrongType
record_by g types at (designated.Open t slot) = report g at rule.WrongType
record_by g types at (designated.Type t) = report g at rule.WrongType
record_by g types at (designated.Procedure p) = report g at rule.WrongType
record_by g types at (designated.Nested p) = report g at rule.WrongType
record_by g types at (designated.Standard f) = report g at rule.WrongType
record_by g types at (designated.Module k) = report g at rule.WrongType

abbrev pub record_of : (g : Gathers) → Scope g.Reported → Meant g.Reported
    → Result (TypeNo × Place) g.Reported
record_of g s d = of_sort g d.fixed.at rule.WrongType (d.means s) ▷ record_by g s.types d.fixed.at

-- ---- The record type that a WITH opens, if its designator has no meaning: that to which it leads
-- whatever its subscripts are.

abbrev pub known_of : {T : Type 0} → Result Designated T → Option Designated
known_of (Ok d) = Some d
known_of (Err e) = None

abbrev pub element_in : Place → Option (TypeNo × TypeNo) → Option Designated
element_in d None = None
element_in d (Some a) = Some (designated.Variable a.1 d)

abbrev pub element_of : Types → Designated → Option Designated
element_of types (designated.Variable t d) = element_in d (array_at types t)
element_of types (designated.Open t slot) =
    Some (designated.Variable t (root_place (root.Open slot)))
element_of types (designated.Value x) = None
element_of types (designated.Type t) = None
element_of types (designated.Procedure p) = None
element_of types (designated.Nested p) = None
element_of types (designated.Standard f) = None
element_of types (designated.Module k) = None

abbrev pub led_by : (g : Gathers) → Scope g.Reported → Designated
    → Selector-F Expr Selector Designating Item → Option Designated
led_by g s d (layer.Field at name) = known_of (field_of g s at name d)
led_by g s d (layer.Index at x) = element_of s.types d

abbrev pub component_behind : (g : Gathers) → Scope g.Reported → Option Designated → Selector
    → Option Designated
component_behind g s None x = None
component_behind g s (Some d) x = led_by g s d (out-Selector x)

abbrev pub type_led_to : Types → Designated → Option TypeNo
type_led_to types (designated.Variable t d) = cond (is_some (fields_at types t)) (Some t) None
type_led_to types (designated.Value x) = None
type_led_to types (designated.Open t slot) = None
type_led_to types (designated.Type t) = None
type_led_to types (designated.Procedure p) = None
type_led_to types (designated.Nested p) = None
type_led_to types (designated.Standard f) = None
type_led_to types (designated.Module k) = None

abbrev pub record_led_to : Types → Option Designated → Option TypeNo
record_led_to types None = None
record_led_to types (Some d) = type_led_to types d

abbrev pub opened_type : (g : Gathers) → Scope g.Reported → Designating → Option TypeNo
opened_type g s d =
    record_led_to s.types (fold (component_behind g s)
    (known_of (first_name g s (out-Designator d).name)) (out-Designator d).selectors)

-- inside, the fields of a record of this type stand for themselves
abbrev pub into_record : {T : Type 0} → Scope T → TypeNo → Scope T
into_record s t = record s { withs = s.withs ++ record { number = length s.withs; of = t } ∷ [] }

-- the same, if there is one
abbrev pub opened_if : {T : Type 0} → Scope T → Option TypeNo → Scope T
opened_if s None = s
opened_if s (Some t) = into_record s t

-- all but the last
abbrev pub front : {A : Type 0} → List A → List A
front [] = []
front (x ∷ []) = []
front (x ∷ y ∷ xs) = x ∷ front (y ∷ xs)

abbrev pub out_of_record : {T : Type 0} → Scope T → Scope T
out_of_record s = record s { withs = front s.withs }
