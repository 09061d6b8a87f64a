-- What operators make of values.
use Rattle.std.specs.Prelude.{ℤ, pos, Bool, true, false, not, ◌&&◌, Option, Some, None, Result, Ok}
use Rattle.m2_rule.specs.declared.rule.Rule.TheVariants as rule
use Rattle.m2_tree.specs.declared.pos.Pos.{Pos}
use Rattle.m2_tree.specs.declared.expr.RelOp.{RelOp}
use Rattle.m2_tree.specs.declared.expr.RelOp.TheVariants as rel
use Rattle.typed_tree.specs.declared.types.TypeNo.{TypeNo}
use Rattle.typed_tree.specs.declared.computed.Arithmetic.TheVariants.{Add, Subtract, Multiply, Divide, Remainder}
use Rattle.typed_tree.specs.declared.computed.Comparison.{Comparison}
use Rattle.typed_tree.specs.declared.computed.Comparison.TheVariants as comparison
use Rattle.typed_tree.specs.declared.computed.SetOperator.TheVariants.{Union, Difference, Intersection, SymmetricDifference}
use Rattle.typed_tree.specs.declared.computed.Inclusion.TheVariants.{Within, Around}
use Rattle.typed_tree.specs.declared.computed.Link.TheVariants as link
use Rattle.typed_tree.specs.declared.computed.TypedExpr.{TypedExpr}
use Rattle.typed_tree.specs.declared.computed.TypedExpr.TheVariants as expr
use Rattle.typed_tree.specs.declared.meaning.Procedure.{Procedure}
use Rattle.typed_tree.specs.declared.meaning.Value.{Value}
use Rattle.typed_tree.specs.declared.known_types.Types.{Types}
use Rattle.typed_tree.specs.Types.{are_same, boolean}
use Rattle.typed_tree.specs.Chains.{link_operand}
use Rattle.check_scope.specs.Elaborated.{Gathers, report, reported_where, both, beside, ◌▷◌}
use Rattle.check_const.specs.declared.operand.Operand.{Operand}
use Rattle.check_const.specs.declared.operator.BinaryOp.{BinaryOp}
use Rattle.check_const.specs.declared.operator.BinaryOp.TheVariants.{Plus, Minus, Times, Over, Div, Mod, And, Or, Relation}
use Rattle.check_const.specs.Operands.{is_number}
use Rattle.check_const.specs.Numbers.{is_between}
use Rattle.check_const.specs.Common.{common}
use Rattle.check_const.specs.Operate.{takes, divisor, fitting, binary}
use Rattle.check_value.specs.declared.computed.Computed.{Computed}
use Rattle.check_value.specs.declared.computed.Computed.TheVariants as value
use Rattle.check_value.specs.declared.side.Amount.{Amount}
use Rattle.check_value.specs.declared.side.Amount.TheVariants.{Known, Run}
use Rattle.check_value.specs.declared.side.Side.{Side}
use Rattle.check_value.specs.declared.side.Side.TheVariants as side
use Rattle.check_value.specs.declared.operate.Step.{Step}
use Rattle.check_value.specs.declared.operate.Step.TheVariants as step
use Rattle.check_value.specs.declared.operate.SetStep.{SetStep}
use Rattle.check_value.specs.declared.operate.SetStep.TheVariants as set_step
use Rattle.check_value.specs.Agreement.{headings_agree}
use Rattle.check_value.specs.Sides.{known_of, side_of, sort_of, or_cardinal, run_of}

abbrev pub of_value : {T : Type 0} → Result Value T → Result Computed T
of_value v = v ▷ λ x. Ok (value.Constant x)

abbrev pub truth_of : TypedExpr → Computed
truth_of e = value.Scalar boolean boolean e

-- ---- what an operator does

abbrev pub relation_step : RelOp → Option Step
relation_step rel.Equal = Some (step.Compare comparison.Equal)
relation_step rel.Unequal = Some (step.Compare comparison.Unequal)
relation_step rel.Less = Some (step.Compare comparison.Less)
relation_step rel.AtMost = Some (step.Compare comparison.AtMost)
relation_step rel.Greater = Some (step.Compare comparison.Greater)
relation_step rel.AtLeast = Some (step.Compare comparison.AtLeast)
relation_step rel.In = None

abbrev pub step_of : BinaryOp → Option Step
step_of Plus = Some (step.Arithmetic Add)
step_of Minus = Some (step.Arithmetic Subtract)
step_of Times = Some (step.Arithmetic Multiply)
step_of Over = None
step_of Div = Some (step.Arithmetic Divide)
step_of Mod = Some (step.Arithmetic Remainder)
step_of And = Some step.And
step_of Or = Some step.Or
step_of (Relation r) = relation_step r

abbrev pub relation_set_step : RelOp → Option SetStep
relation_set_step rel.Equal = Some (set_step.Compare comparison.Equal)
relation_set_step rel.Unequal = Some (set_step.Compare comparison.Unequal)
relation_set_step rel.Less = None
relation_set_step rel.AtMost = Some (set_step.Include Within)
relation_set_step rel.Greater = None
relation_set_step rel.AtLeast = Some (set_step.Include Around)
relation_set_step rel.In = None

abbrev pub set_step_of : BinaryOp → Option SetStep
set_step_of Plus = Some (set_step.Combine Union)
set_step_of Minus = Some (set_step.Combine Difference)
set_step_of Times = Some (set_step.Combine Intersection)
set_step_of Over = Some (set_step.Combine SymmetricDifference)
set_step_of Div = None
set_step_of Mod = None
set_step_of And = None
set_step_of Or = None
set_step_of (Relation r) = relation_set_step r

-- procedures have = and # alone
abbrev pub equality_of : BinaryOp → Option Comparison
equality_of Plus = None
equality_of Minus = None
equality_of Times = None
equality_of Over = None
equality_of Div = None
equality_of Mod = None
equality_of And = None
equality_of Or = None
equality_of (Relation rel.Equal) = Some comparison.Equal
equality_of (Relation rel.Unequal) = Some comparison.Unequal
equality_of (Relation rel.Less) = None
equality_of (Relation rel.AtMost) = None
equality_of (Relation rel.Greater) = None
equality_of (Relation rel.AtLeast) = None
equality_of (Relation rel.In) = None

abbrev pub is_in : BinaryOp → Bool
is_in Plus = false
is_in Minus = false
is_in Times = false
is_in Over = false
is_in Div = false
is_in Mod = false
is_in And = false
is_in Or = false
is_in (Relation rel.Equal) = false
is_in (Relation rel.Unequal) = false
is_in (Relation rel.Less) = false
is_in (Relation rel.AtMost) = false
is_in (Relation rel.Greater) = false
is_in (Relation rel.AtLeast) = false
is_in (Relation rel.In) = true

-- ---- scalars

abbrev pub step_result : TypeNo → TypedExpr → TypedExpr → Step → Computed
step_result t x y (step.Arithmetic o) = value.Scalar t t (link_operand x (link.Arithmetic o t y))
step_result t x y step.And = truth_of (link_operand x (link.And y))
step_result t x y step.Or = truth_of (link_operand x (link.Or y))
step_result t x y (step.Compare c) = truth_of (expr.Compare c x y)

abbrev pub fitting_of : (g : Gathers) → Option TypeNo → Pos → Amount → Result (Unit {0}) g.Reported
fitting_of g sort at (Known a) = fitting g sort at a
fitting_of g sort at (Run b e) = Ok tt

abbrev pub divisor_of : (g : Gathers) → BinaryOp → Pos → Amount → Result (Unit {0}) g.Reported
divisor_of g op spot (Known b) = divisor g op spot b.number
divisor_of g op spot (Run b e) = Ok tt

abbrev pub fitting_both : (g : Gathers) → BinaryOp → Pos → Option TypeNo → Pos → Amount → Pos
    → Amount → Result (Unit {0}) g.Reported
fitting_both g op spot sort at a at' b =
    reported_where g (not (takes op sort)) spot rule.WrongType
    (beside g (divisor_of g op spot b)
    (beside g (fitting_of g sort at a) (fitting_of g sort at' b)))

abbrev pub step_or_refusal : (g : Gathers) → Pos → Option TypeNo → Amount → Amount → Option Step
    → Result Computed g.Reported
step_or_refusal g spot sort a b None = report g spot rule.WrongType
step_or_refusal g spot sort a b (Some o) =
    Ok
    (step_result (or_cardinal sort) (run_of (or_cardinal sort) a) (run_of (or_cardinal sort) b) o)

abbrev pub on_amounts : (g : Gathers) → BinaryOp → Pos → Pos → Amount → Pos → Amount
    → Option (Option TypeNo) → Result Computed g.Reported
on_amounts g op spot at a at' b None = report g spot rule.WrongType
on_amounts g op spot at a at' b (Some sort) =
    fitting_both g op spot sort at a at' b ▷ λ fine. step_or_refusal g spot sort a b (step_of op)

-- ---- sets

-- a constant element is from 0 to 31
abbrev pub element_fits : (g : Gathers) → Pos → Amount → Result (Unit {0}) g.Reported
element_fits g at (Known a) =
    reported_where g (not (is_between (pos 0) a.number (pos 31))) at rule.OutOfRange (Ok tt)
element_fits g at (Run b e) = Ok tt

abbrev pub member : (g : Gathers) → BinaryOp → Pos → Pos → Amount → TypedExpr
    → Result Computed g.Reported
member g op spot at a s =
    reported_where g (not (is_in op && is_number (sort_of a))) spot rule.WrongType
    (element_fits g at a ▷ λ fine. Ok (truth_of (expr.In (run_of (or_cardinal (sort_of a)) a) s)))

abbrev pub set_built : TypedExpr → TypedExpr → SetStep → Computed
set_built x y (set_step.Combine o) = value.Set (link_operand x (link.Combine o y))
set_built x y (set_step.Compare c) = truth_of (expr.Compare c x y)
set_built x y (set_step.Include i) = truth_of (expr.Include i x y)

abbrev pub on_sets : (g : Gathers) → Pos → TypedExpr → TypedExpr → Option SetStep
    → Result Computed g.Reported
on_sets g spot x y None = report g spot rule.WrongType
on_sets g spot x y (Some o) = Ok (set_built x y o)

-- ---- procedures

abbrev pub on_procedures : (g : Gathers) → Pos → (fit : Bool) → TypedExpr → TypedExpr
    → Option Comparison → Result Computed g.Reported
on_procedures g spot fit x y None = report g spot rule.WrongType
on_procedures g spot fit x y (Some c) =
    reported_where g (not fit) spot rule.WrongType (Ok (truth_of (expr.Compare c x y)))

-- ---- all of them, if one side is no constant

abbrev pub with_scalar : (g : Gathers) → BinaryOp → Pos → Pos → Amount → Pos → Option Side
    → Result Computed g.Reported
with_scalar g op spot at a at' None = report g spot rule.WrongType
with_scalar g op spot at a at' (Some (side.Scalar b)) =
    on_amounts g op spot at a at' b (common (sort_of a) (sort_of b))
with_scalar g op spot at a at' (Some (side.Set s)) = member g op spot at a s
with_scalar g op spot at a at' (Some (side.Routine t e)) = report g spot rule.WrongType
with_scalar g op spot at a at' (Some (side.Procedure p)) = report g spot rule.WrongType

abbrev pub set_in : Option Side → Option TypedExpr
set_in None = None
set_in (Some (side.Scalar b)) = None
set_in (Some (side.Set s)) = Some s
set_in (Some (side.Routine t e)) = None
set_in (Some (side.Procedure p)) = None

abbrev pub with_set : (g : Gathers) → BinaryOp → Pos → TypedExpr → Option TypedExpr
    → Result Computed g.Reported
with_set g op spot x None = report g spot rule.WrongType
with_set g op spot x (Some s) = on_sets g spot x s (set_step_of op)

-- beside a value of a procedure type one of the same type, or a procedure whose heading agrees
abbrev pub partner_of : Types → TypeNo → Option Side → Option (Bool × TypedExpr)
partner_of types t None = None
partner_of types t (Some (side.Scalar b)) = None
partner_of types t (Some (side.Set s)) = None
partner_of types t (Some (side.Routine u e)) = Some (are_same t u, e)
partner_of types t (Some (side.Procedure p)) =
    Some (headings_agree types t p.heading, expr.Procedure p)

abbrev pub routine_of : Types → Procedure → Option Side → Option (Bool × TypedExpr)
routine_of types p None = None
routine_of types p (Some (side.Scalar b)) = None
routine_of types p (Some (side.Set s)) = None
routine_of types p (Some (side.Routine t e)) = Some (headings_agree types t p.heading, e)
routine_of types p (Some (side.Procedure q)) = None

abbrev pub with_partner : (g : Gathers) → Pos → TypedExpr → Option Comparison
    → Option (Bool × TypedExpr) → Result Computed g.Reported
with_partner g spot x c None = report g spot rule.WrongType
with_partner g spot x c (Some p) = on_procedures g spot p.0 x p.1 c

abbrev pub between : (g : Gathers) → Types → BinaryOp → Pos → Pos → Option Side → Pos → Option Side
    → Result Computed g.Reported
between g types op spot at None at' y = report g spot rule.WrongType
between g types op spot at (Some (side.Scalar a)) at' y = with_scalar g op spot at a at' y
between g types op spot at (Some (side.Set e)) at' y = with_set g op spot e (set_in y)
between g types op spot at (Some (side.Routine t e)) at' y =
    with_partner g spot e (equality_of op) (partner_of types t y)
between g types op spot at (Some (side.Procedure p)) at' y =
    with_partner g spot (expr.Procedure p) (equality_of op) (routine_of types p y)

-- ---- what is made of two constants is a constant

abbrev pub constant_result : (g : Gathers) → BinaryOp → Pos → Pos → Operand → Pos → Operand
    → Result Computed g.Reported
constant_result g op spot at a at' b = of_value (binary g op spot at (Some a) at' (Some b))

abbrev pub by_known : (g : Gathers) → Types → BinaryOp → Pos → Pos → Computed → Pos → Computed
    → Option Operand → Option Operand → Result Computed g.Reported
by_known g types op spot at x at' y None b = between g types op spot at (side_of x) at' (side_of y)
by_known g types op spot at x at' y (Some a) None =
    between g types op spot at (side_of x) at' (side_of y)
by_known g types op spot at x at' y (Some a) (Some b) = constant_result g op spot at a at' b

abbrev pub operation_on : (g : Gathers) → Types → BinaryOp → Pos → Pos → Computed → Pos → Computed
    → Result Computed g.Reported
operation_on g types op spot at x at' y =
    by_known g types op spot at x at' y (known_of x) (known_of y)

-- an operator at a place, between two parts at theirs
abbrev pub operation_between : (g : Gathers) → Types → BinaryOp → Pos → Pos
    → Result Computed g.Reported → Pos → Result Computed g.Reported → Result Computed g.Reported
operation_between g types op spot at x at' y =
    both g x y ▷ λ p. operation_on g types op spot at p.0 at' p.1
