-- Signs and NOT.
use Rattle.std.specs.Prelude.{not, Result, Ok}
use Rattle.m2_rule.specs.declared.rule.Rule.TheVariants as rule
use Rattle.m2_tree.specs.declared.pos.Pos.{Pos}
use Rattle.m2_tree.specs.declared.expr.Sign.{Sign}
use Rattle.m2_tree.specs.declared.expr.Sign.TheVariants as sign
use Rattle.typed_tree.specs.declared.types.TypeNo.{TypeNo}
use Rattle.typed_tree.specs.declared.computed.TypedExpr.{TypedExpr}
use Rattle.typed_tree.specs.declared.computed.TypedExpr.TheVariants as expr
use Rattle.typed_tree.specs.Types.{are_same, is_integer, is_numeric, boolean}
use Rattle.check_scope.specs.Elaborated.{Gathers, report, reported_where, ◌▷◌}
use Rattle.check_const.specs.Operate.{with_sign as signed_constant, negation as negated_constant}
use Rattle.check_value.specs.declared.computed.Computed.{Computed}
use Rattle.check_value.specs.declared.computed.Computed.TheVariants as value
use Rattle.check_value.specs.Operations.{of_value, truth_of}

-- plus takes INTEGER and CARDINAL, minus INTEGER
abbrev pub signed_scalar : (g : Gathers) → Sign → Pos → TypeNo → TypedExpr
    → Result Computed g.Reported
signed_scalar g sign.Plus spot b e =
    reported_where g (not (is_numeric b)) spot rule.WrongType
    (Ok (value.Scalar b b (expr.Plus b e)))
signed_scalar g sign.Minus spot b e =
    reported_where g (not (is_integer b)) spot rule.WrongType
    (Ok (value.Scalar b b (expr.Negate e)))

abbrev pub signed_value : (g : Gathers) → Sign → Pos → Computed → Result Computed g.Reported
signed_value g o spot (value.Constant v) = of_value (signed_constant g o spot (Ok v))
signed_value g o spot (value.Scalar t b e) = signed_scalar g o spot b e
signed_value g o spot (value.Set e) = report g spot rule.WrongType
signed_value g o spot (value.Routine t e) = report g spot rule.WrongType
signed_value g o spot (value.Procedure p) = report g spot rule.WrongType
signed_value g o spot (value.Whole t d) = report g spot rule.WrongType
signed_value g o spot value.Untaken = report g spot rule.WrongType

abbrev pub with_sign : (g : Gathers) → Sign → Pos → Result Computed g.Reported
    → Result Computed g.Reported
with_sign g o spot x = x ▷ signed_value g o spot

abbrev pub negated_scalar : (g : Gathers) → Pos → TypeNo → TypedExpr → Result Computed g.Reported
negated_scalar g spot b e =
    reported_where g (not (are_same b boolean)) spot rule.WrongType (Ok (truth_of (expr.Not e)))

abbrev pub negated_value : (g : Gathers) → Pos → Computed → Result Computed g.Reported
negated_value g spot (value.Constant v) = of_value (negated_constant g spot (Ok v))
negated_value g spot (value.Scalar t b e) = negated_scalar g spot b e
negated_value g spot (value.Set e) = report g spot rule.WrongType
negated_value g spot (value.Routine t e) = report g spot rule.WrongType
negated_value g spot (value.Procedure p) = report g spot rule.WrongType
negated_value g spot (value.Whole t d) = report g spot rule.WrongType
negated_value g spot value.Untaken = report g spot rule.WrongType

abbrev pub negation : (g : Gathers) → Pos → Result Computed g.Reported → Result Computed g.Reported
negation g spot x = x ▷ negated_value g spot
