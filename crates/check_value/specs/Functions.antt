-- Standard functions.
use Rattle.std.specs.Prelude.{Bool, true, not, Result, Ok}
use Rattle.m2_rule.specs.declared.rule.Rule.TheVariants as rule
use Rattle.m2_tree.specs.declared.pos.Pos.{Pos}
use Rattle.typed_tree.specs.declared.types.TypeNo.{TypeNo}
use Rattle.typed_tree.specs.declared.computed.TypedExpr.{TypedExpr}
use Rattle.typed_tree.specs.declared.computed.TypedExpr.TheVariants as expr
use Rattle.typed_tree.specs.declared.meaning.Standard.{Standard}
use Rattle.typed_tree.specs.declared.meaning.Standard.TheVariants.{Abs, Cap, Chr, High, Max, Min, Odd, Ord, Val, Inc, Dec, Incl, Excl, Halt, Put}
use Rattle.typed_tree.specs.declared.shape.Scalar.{Scalar as Range}
use Rattle.typed_tree.specs.declared.known_types.Types.{Types}
use Rattle.typed_tree.specs.Types.{are_same, is_numeric, cardinal, boolean, char}
use Rattle.typed_tree.specs.Known.{scalar_at}
use Rattle.check_scope.specs.Elaborated.{Gathers, report, reported_where, both, ◌▷◌}
use Rattle.check_const.specs.Standards.{conversion_of}
use Rattle.check_const.specs.Calls.{scalar_type, unary_of, bound_by}
use Rattle.check_value.specs.declared.computed.Computed.{Computed}
use Rattle.check_value.specs.declared.computed.Computed.TheVariants as value
use Rattle.check_value.specs.declared.computed.Designated.{Designated}
use Rattle.check_value.specs.declared.computed.Designated.TheVariants as designated
use Rattle.check_value.specs.Operations.{of_value}
use Rattle.check_value.specs.declared.standard.Unary.{Unary}
use Rattle.check_value.specs.declared.standard.Unary.TheVariants as unary
use Rattle.check_value.specs.declared.standard.Form.{Form}
use Rattle.check_value.specs.declared.standard.Form.TheVariants as form

-- what a standard procedure asks for in an expression
abbrev pub form_of : Standard → Form
form_of Abs = form.Unary unary.Abs
form_of Cap = form.Unary unary.Cap
form_of Chr = form.Unary unary.Chr
form_of High = form.High
form_of Max = form.Bound
form_of Min = form.Bound
form_of Odd = form.Unary unary.Odd
form_of Ord = form.Unary unary.Ord
form_of Val = form.Conversion
form_of Inc = form.Proper
form_of Dec = form.Proper
form_of Incl = form.Proper
form_of Excl = form.Proper
form_of Halt = form.Proper
form_of Put = form.Proper

-- ---- of one value

abbrev pub unary_takes : Unary → TypeNo → Bool
unary_takes unary.Abs b = is_numeric b
unary_takes unary.Cap b = are_same b char
unary_takes unary.Chr b = is_numeric b
unary_takes unary.Odd b = is_numeric b
unary_takes unary.Ord b = true

abbrev pub unary_built : Unary → TypeNo → TypedExpr → Computed
unary_built unary.Abs b e = value.Scalar b b (expr.Abs b e)
unary_built unary.Cap b e = value.Scalar char char (expr.Cap e)
unary_built unary.Chr b e = value.Scalar char char (expr.Chr e)
unary_built unary.Odd b e = value.Scalar boolean boolean (expr.Odd e)
unary_built unary.Ord b e = value.Scalar cardinal cardinal (expr.Ord e)

abbrev pub unary_scalar : (g : Gathers) → Unary → Pos → TypeNo → TypedExpr
    → Result Computed g.Reported
unary_scalar g u at b e =
    reported_where g (not (unary_takes u b)) at rule.WrongArgument (Ok (unary_built u b e))

abbrev pub unary_at : (g : Gathers) → Standard → Unary → Pos → Computed → Result Computed g.Reported
unary_at g f u at (value.Constant v) = of_value (unary_of g f at v)
unary_at g f u at (value.Scalar t b e) = unary_scalar g u at b e
unary_at g f u at (value.Set e) = report g at rule.WrongArgument
unary_at g f u at (value.Routine t e) = report g at rule.WrongArgument
unary_at g f u at (value.Procedure p) = report g at rule.WrongArgument
unary_at g f u at (value.Whole t d) = report g at rule.WrongArgument
unary_at g f u at value.Untaken = report g at rule.WrongArgument

-- ---- of types

abbrev pub type_named : (g : Gathers) → Types → Pos → Designated
    → Result (TypeNo × Range) g.Reported
type_named g types at (designated.Type t) = scalar_type g at t (scalar_at types t)
type_named g types at (designated.Value x) = report g at rule.NoType
type_named g types at (designated.Variable t d) = report g at rule.NoType
type_named g types at (designated.Open t slot) = report g at rule.NoType
type_named g types at (designated.Procedure p) = report g at rule.NoType
type_named g types at (designated.Nested p) = report g at rule.NoType
type_named g types at (designated.Standard f) = report g at rule.NoType
type_named g types at (designated.Module k) = report g at rule.NoType

abbrev pub bound_at : {T : Type 0} → Standard → Result (TypeNo × Range) T → Result Computed T
bound_at f x = x ▷ λ p. Ok (value.Constant (bound_by f p.0 p.1))

abbrev pub converted_scalar : (g : Gathers) → TypeNo → Range → Pos → TypeNo → TypedExpr
    → Result Computed g.Reported
converted_scalar g t s at b e =
    reported_where g (not (is_numeric b)) at rule.WrongArgument
    (Ok (value.Scalar t s.base (expr.Val t e)))

abbrev pub converted_value : (g : Gathers) → TypeNo → Range → Pos → Computed
    → Result Computed g.Reported
converted_value g t s at (value.Constant v) = of_value (conversion_of g t s at v)
converted_value g t s at (value.Scalar u b e) = converted_scalar g t s at b e
converted_value g t s at (value.Set e) = report g at rule.WrongArgument
converted_value g t s at (value.Routine u e) = report g at rule.WrongArgument
converted_value g t s at (value.Procedure p) = report g at rule.WrongArgument
converted_value g t s at (value.Whole u d) = report g at rule.WrongArgument
converted_value g t s at value.Untaken = report g at rule.WrongArgument

-- VAL
abbrev pub conversion_at : (g : Gathers) → Result (TypeNo × Range) g.Reported → Pos
    → Result Computed g.Reported → Result Computed g.Reported
conversion_at g to at x = both g to x ▷ λ p. converted_value g p.0.0 p.0.1 at p.1

-- ---- HIGH

abbrev pub high_of : (g : Gathers) → Pos → Designated → Result Computed g.Reported
high_of g at (designated.Open t slot) = Ok (value.Scalar cardinal cardinal (expr.High slot))
high_of g at (designated.Value x) = report g at rule.WrongArgument
high_of g at (designated.Variable t d) = report g at rule.WrongArgument
high_of g at (designated.Type t) = report g at rule.WrongType
high_of g at (designated.Procedure p) = report g at rule.WrongArgument
high_of g at (designated.Nested p) = report g at rule.NoProcedureValue
high_of g at (designated.Standard f) = report g at rule.NoProcedureValue
high_of g at (designated.Module k) = report g at rule.WrongType
