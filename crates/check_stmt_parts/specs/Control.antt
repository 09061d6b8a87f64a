-- The control variable of a FOR, and from where to where it goes.
use Rattle.std.specs.Prelude.{ℤ, pos, Bool, true, false, not, ◌&&◌, ◌||◌, ◌==◌, int_lt, List, Option, Some, None, Result, Ok}
use Rattle.m2_rule.specs.declared.rule.Rule.TheVariants as rule
use Rattle.m2_tree.specs.declared.pos.Pos.{Pos}
use Rattle.m2_tree.specs.declared.name.Ident.{Ident}
use Rattle.typed_tree.specs.declared.types.TypeNo.{TypeNo}
use Rattle.typed_tree.specs.declared.computed.Place.{Place}
use Rattle.typed_tree.specs.declared.computed.Root.TheVariants as root
use Rattle.typed_tree.specs.declared.computed.TypedExpr.{TypedExpr}
use Rattle.typed_tree.specs.declared.computed.TypedExpr.TheVariants as expr
use Rattle.typed_tree.specs.declared.meaning.LocalKind.{LocalKind}
use Rattle.typed_tree.specs.declared.meaning.LocalKind.TheVariants as kind
use Rattle.typed_tree.specs.declared.meaning.Meaning.{Meaning}
use Rattle.typed_tree.specs.declared.meaning.Meaning.TheVariants as meaning
use Rattle.typed_tree.specs.declared.meaning.Value.{Value}
use Rattle.typed_tree.specs.declared.statement.TypedStmt.{TypedStmt}
use Rattle.typed_tree.specs.declared.statement.TypedStmt.TheVariants as step
use Rattle.typed_tree.specs.declared.known_types.Types.{Types}
use Rattle.typed_tree.specs.Chains.{root_place}
use Rattle.check_scope.specs.Elaborated.{Gathers, report, reported_where, both, of_sort, ◌▷◌}
use Rattle.check_scope.specs.declared.scope.Scope.{Scope}
use Rattle.check_scope.specs.Scopes.{looked_up}
use Rattle.check_const.specs.declared.operand.Ordinal.{Ordinal}
use Rattle.check_const.specs.Numbers.{fits}
use Rattle.check_const.specs.Standards.{whole_number}
use Rattle.check_const.specs.Parts.{constant}
use Rattle.check_value.specs.declared.class.Class.{Class}
use Rattle.check_value.specs.declared.class.Class.TheVariants as class
use Rattle.check_value.specs.declared.computed.Computed.{Computed}
use Rattle.check_value.specs.declared.side.Amount.TheVariants.{Known, Run}
use Rattle.check_value.specs.declared.side.Side.{Side}
use Rattle.check_value.specs.declared.side.Side.TheVariants as side
use Rattle.check_value.specs.Classes.{class_at}
use Rattle.check_value.specs.Values.{slot_of}
use Rattle.check_value.specs.Sides.{side_of}
use Rattle.check_value.specs.Suits.{sort_suits, bases_suit, value_suited}
use Rattle.check_expr.specs.Meanings.{Meant, value_of}
use Rattle.check_stmt_parts.specs.declared.control.Control.{Control}
use Rattle.check_stmt_parts.specs.declared.control.Course.{Course}

-- ---- the control variable: a scalar variable of the module, or of the procedure itself, and no
-- formal

abbrev pub controlled_as : (g : Gathers) → Pos → TypeNo → Place → Class → Result Control g.Reported
controlled_as g at t d (class.Scalar s) = Ok (record { of = t; base = s.base; place = d })
controlled_as g at t d class.Set = report g at rule.WrongControl
controlled_as g at t d class.Procedure = report g at rule.WrongControl
controlled_as g at t d class.Whole = report g at rule.WrongControl

abbrev pub control_variable : (g : Gathers) → Types → Pos → TypeNo → Place
    → Result Control g.Reported
control_variable g types at t d = controlled_as g at t d (class_at types t)

abbrev pub is_own : LocalKind → Bool
is_own kind.Variable = true
is_own kind.Value = false
is_own kind.Alias = false
is_own kind.Open = false

abbrev pub control_by : (g : Gathers) → Scope g.Reported → Pos → Meaning → Result Control g.Reported
control_by g s at (meaning.Constant v) = report g at rule.WrongControl
control_by g s at (meaning.Type t n) = report g at rule.WrongControl
control_by g s at (meaning.Variable v) =
    reported_where g (not (v.home == s.types.home)) at rule.WrongControl
    (control_variable g s.types at v.of (root_place (root.Global v)))
control_by g s at (meaning.Local v) =
    reported_where g (not (is_own v.kind && (v.level == s.level))) at rule.WrongControl
    (control_variable g s.types at v.of (root_place (root.Local (slot_of s.level v))))
control_by g s at (meaning.Field f) = report g at rule.WrongControl
control_by g s at (meaning.Procedure p) = report g at rule.WrongControl
control_by g s at (meaning.LocalProcedure p) = report g at rule.WrongControl
control_by g s at meaning.Ahead = report g at rule.Ahead
control_by g s at (meaning.Standard f) = report g at rule.WrongControl
control_by g s at (meaning.Module k) = report g at rule.WrongControl

abbrev pub control_of : (g : Gathers) → Scope g.Reported → Ident → Result Control g.Reported
control_of g s name =
    of_sort g name.pos rule.WrongControl (looked_up g s name) ▷ control_by g s name.pos

-- ---- the start is assigned to it

abbrev pub start_at : (g : Gathers) → Types → Pos → Result TypeNo g.Reported
    → Result Computed g.Reported → Result TypedExpr g.Reported
start_at g types at t x = both g t x ▷ λ p. value_suited g rule.NotAssignable types p.0 at p.1

-- ---- the limit is of a base type that goes with the one of the variable; a number without a type
-- is one of it

abbrev pub limit_number : (g : Gathers) → TypeNo → Pos → ℤ → Option TypeNo
    → Result TypedExpr g.Reported
limit_number g base at n None =
    reported_where g (not (fits (Some base) n)) at rule.OutOfRange (Ok (expr.Constant base n))
limit_number g base at n (Some t) = Ok (expr.Constant t n)

abbrev pub limit_by : (g : Gathers) → TypeNo → Pos → Option Side → Result TypedExpr g.Reported
limit_by g base at None = report g at rule.NotAssignable
limit_by g base at (Some (side.Scalar (Known a))) =
    reported_where g (not (sort_suits base a.sort)) at rule.NotAssignable
    (limit_number g base at a.number a.sort)
limit_by g base at (Some (side.Scalar (Run b e))) =
    reported_where g (not (bases_suit base b)) at rule.NotAssignable (Ok e)
limit_by g base at (Some (side.Set e)) = report g at rule.NotAssignable
limit_by g base at (Some (side.Routine t e)) = report g at rule.NotAssignable
limit_by g base at (Some (side.Procedure p)) = report g at rule.NotAssignable

abbrev pub limit_at : (g : Gathers) → Pos → Result TypeNo g.Reported → Result Computed g.Reported
    → Result TypedExpr g.Reported
limit_at g at base x = both g base x ▷ λ p. limit_by g p.0 at (side_of p.1)

-- ---- the step: a constant whole number that is not zero, or else 1

abbrev pub is_zero : ℤ → Bool
is_zero n = not (int_lt n (pos 0) || int_lt (pos 0) n)

abbrev pub step_number : (g : Gathers) → Pos → Option Ordinal → Result ℤ g.Reported
step_number g at None = report g at rule.WrongType
step_number g at (Some a) = reported_where g (is_zero a.number) at rule.ZeroStep (Ok a.number)

abbrev pub step_by : (g : Gathers) → Pos → Value → Result ℤ g.Reported
step_by g at v = step_number g at (whole_number v)

abbrev pub step_of : (g : Gathers) → Scope g.Reported → Option (Meant g.Reported)
    → Result ℤ g.Reported
step_of g s None = Ok (pos 1)
step_of g s (Some x) = constant g s x.fixed ▷ step_by g x.fixed.at

-- ---- all of it

abbrev pub type_of : {T : Type 0} → Result Control T → Result TypeNo T
type_of v = v ▷ λ x. Ok x.of

abbrev pub base_of : {T : Type 0} → Result Control T → Result TypeNo T
base_of v = v ▷ λ x. Ok x.base

abbrev pub course : (g : Gathers) → Result Control g.Reported → Result TypedExpr g.Reported
    → Result TypedExpr g.Reported → Result ℤ g.Reported → Result Course g.Reported
course g v start limit by =
    both g (both g v start) (both g limit by) ▷ λ p.
    Ok (record { control = p.0.0; start = p.0.1; limit = p.1.0; by = p.1.1 })

abbrev pub course_of : (g : Gathers) → Scope g.Reported → Ident → (start limit : Meant g.Reported)
    → Option (Meant g.Reported) → Result Course g.Reported
course_of g s name start limit by =
    let v = control_of g s name in
    course g v
    (start_at g s.types start.fixed.at (type_of v) (value_of g s start))
    (limit_at g limit.fixed.at (base_of v) (value_of g s limit))
    (step_of g s by)

abbrev pub repeated_for : (g : Gathers) → Result Course g.Reported
    → Result (List TypedStmt) g.Reported → Result TypedStmt g.Reported
repeated_for g c body =
    both g c body ▷ λ p.
    Ok (step.For p.0.control.place p.0.control.of p.0.start p.0.limit p.0.by p.1)
