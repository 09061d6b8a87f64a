-- What places take: assignment compatibility. The rule is broken if a value does not suit.
use Rattle.std.specs.Prelude.{ℕ, ◌-◌, ◌-ℤ◌, Bool, false, not, ◌&&◌, ◌||◌, nat_lt, unsigned_abs, List, length, Option, Some, None, Result, Ok}
use Rattle.m2_rule.specs.declared.rule.Rule.{Rule}
use Rattle.m2_rule.specs.declared.rule.Rule.TheVariants as rule
use Rattle.m2_tree.specs.declared.pos.Pos.{Pos}
use Rattle.typed_tree.specs.declared.types.TypeNo.{TypeNo}
use Rattle.typed_tree.specs.declared.shape.Scalar.{Scalar as Range}
use Rattle.typed_tree.specs.declared.computed.TypedExpr.{TypedExpr}
use Rattle.typed_tree.specs.declared.computed.TypedExpr.TheVariants as expr
use Rattle.typed_tree.specs.declared.meaning.Value.{Value}
use Rattle.typed_tree.specs.declared.meaning.Value.TheVariants as constant
use Rattle.typed_tree.specs.declared.known_types.Types.{Types}
use Rattle.typed_tree.specs.Types.{are_same, is_numeric, char}
use Rattle.typed_tree.specs.Known.{scalar_at}
use Rattle.check_scope.specs.Elaborated.{Gathers, report, reported_where, ◌▷◌}
use Rattle.check_const.specs.declared.operand.Ordinal.{Ordinal}
use Rattle.check_const.specs.Numbers.{is_between}
use Rattle.check_value.specs.declared.class.Class.{Class}
use Rattle.check_value.specs.declared.class.Class.TheVariants as class
use Rattle.check_value.specs.declared.computed.Computed.{Computed}
use Rattle.check_value.specs.declared.computed.Computed.TheVariants as value
use Rattle.check_value.specs.declared.side.Amount.TheVariants.{Known, Run}
use Rattle.check_value.specs.declared.side.Side.{Side}
use Rattle.check_value.specs.declared.side.Side.TheVariants as side
use Rattle.check_value.specs.declared.places.Accepted.{Accepted}
use Rattle.check_value.specs.declared.places.Accepted.TheVariants as suits
use Rattle.check_value.specs.Classes.{class_at, array_at}
use Rattle.check_value.specs.Agreement.{headings_agree}
use Rattle.check_value.specs.Sides.{side_of}

-- ---- scalars

-- one base, or INTEGER and CARDINAL
abbrev pub bases_suit : (asked base : TypeNo) → Bool
bases_suit asked base = are_same asked base || (is_numeric asked && is_numeric base)

-- a number without a type suits INTEGER and CARDINAL
abbrev pub sort_suits : (asked : TypeNo) → Option TypeNo → Bool
sort_suits asked None = is_numeric asked
sort_suits asked (Some base) = bases_suit asked base

-- a constant is one of the type
abbrev pub known_suited : (g : Gathers) → Rule → TypeNo → Range → Pos → Ordinal
    → Result TypedExpr g.Reported
known_suited g broken t s at a =
    reported_where g (not (sort_suits s.base a.sort)) at broken
    (reported_where g (not (is_between s.low a.number s.high)) at rule.OutOfRange
    (Ok (expr.Constant t a.number)))

abbrev pub run_suited : (g : Gathers) → Rule → Range → Pos → TypeNo → TypedExpr
    → Result TypedExpr g.Reported
run_suited g broken s at b e = reported_where g (not (bases_suit s.base b)) at broken (Ok e)

abbrev pub scalar_suited : (g : Gathers) → Rule → TypeNo → Range → Pos → Option Side
    → Result TypedExpr g.Reported
scalar_suited g broken t s at None = report g at broken
scalar_suited g broken t s at (Some (side.Scalar (Known a))) = known_suited g broken t s at a
scalar_suited g broken t s at (Some (side.Scalar (Run b e))) = run_suited g broken s at b e
scalar_suited g broken t s at (Some (side.Set e)) = report g at broken
scalar_suited g broken t s at (Some (side.Routine u e)) = report g at broken
scalar_suited g broken t s at (Some (side.Procedure p)) = report g at broken

-- ---- sets and procedures

abbrev pub set_suited : (g : Gathers) → Rule → Pos → Option Side → Result TypedExpr g.Reported
set_suited g broken at None = report g at broken
set_suited g broken at (Some (side.Scalar a)) = report g at broken
set_suited g broken at (Some (side.Set e)) = Ok e
set_suited g broken at (Some (side.Routine u e)) = report g at broken
set_suited g broken at (Some (side.Procedure p)) = report g at broken

-- a value of the type, or a procedure whose heading agrees
abbrev pub procedure_suited : (g : Gathers) → Rule → Types → TypeNo → Pos → Option Side
    → Result TypedExpr g.Reported
procedure_suited g broken types t at None = report g at broken
procedure_suited g broken types t at (Some (side.Scalar a)) = report g at broken
procedure_suited g broken types t at (Some (side.Set e)) = report g at broken
procedure_suited g broken types t at (Some (side.Routine u e)) =
    reported_where g (not (are_same u t)) at broken (Ok e)
procedure_suited g broken types t at (Some (side.Procedure p)) =
    reported_where g (not (headings_agree types t p.heading)) at broken (Ok (expr.Procedure p))

abbrev pub value_in : (g : Gathers) → Rule → Types → TypeNo → Pos → Option Side → Class
    → Result TypedExpr g.Reported
value_in g broken types t at x (class.Scalar s) = scalar_suited g broken t s at x
value_in g broken types t at x class.Set = set_suited g broken at x
value_in g broken types t at x class.Procedure = procedure_suited g broken types t at x
value_in g broken types t at x class.Whole = report g at broken

-- a value for a place of this type, which is no array and no record
abbrev pub value_suited : (g : Gathers) → Rule → Types → TypeNo → Pos → Computed
    → Result TypedExpr g.Reported
value_suited g broken types t at x = value_in g broken types t at (side_of x) (class_at types t)

-- ---- strings, arrays and records

-- an array whose index goes from low to high has high - low + 1 elements
abbrev pub text_within : (length : ℕ) → Option Range → Bool
text_within n None = false
text_within n (Some s) = not (nat_lt (unsigned_abs (s.high -ℤ s.low)) (n - 1))

abbrev pub text_fits_in : Types → (length : ℕ) → Option (TypeNo × TypeNo) → Bool
text_fits_in types n None = false
text_fits_in types n (Some a) = are_same a.1 char && text_within n (scalar_at types a.0)

-- an array of CHAR with at least this many elements
abbrev pub text_fits : Types → TypeNo → (length : ℕ) → Bool
text_fits types t n = text_fits_in types n (array_at types t)

abbrev pub text_suited : (g : Gathers) → Rule → Types → TypeNo → Pos → Value
    → Result Accepted g.Reported
text_suited g broken types t at (constant.Number n) = report g at broken
text_suited g broken types t at (constant.Scalar s) = report g at broken
text_suited g broken types t at (constant.Set bits) = report g at broken
text_suited g broken types t at (constant.Text text) =
    reported_where g (not (text_fits types t (length text))) at broken (Ok (suits.Text text))

-- one of the type, or a string that fits
abbrev pub whole_suited : (g : Gathers) → Rule → Types → TypeNo → Pos → Computed
    → Result Accepted g.Reported
whole_suited g broken types t at (value.Constant v) = text_suited g broken types t at v
whole_suited g broken types t at (value.Whole u d) =
    reported_where g (not (are_same u t)) at broken (Ok (suits.Whole d))
whole_suited g broken types t at (value.Scalar u b e) = report g at broken
whole_suited g broken types t at (value.Set e) = report g at broken
whole_suited g broken types t at (value.Routine u e) = report g at broken
whole_suited g broken types t at (value.Procedure p) = report g at broken
whole_suited g broken types t at value.Untaken = report g at broken

abbrev pub of_expr : {T : Type 0} → Result TypedExpr T → Result Accepted T
of_expr e = e ▷ λ x. Ok (suits.Value x)

abbrev pub suited_in : (g : Gathers) → Rule → Types → TypeNo → Pos → Computed → Class
    → Result Accepted g.Reported
suited_in g broken types t at x (class.Scalar s) = of_expr (value_suited g broken types t at x)
suited_in g broken types t at x class.Set = of_expr (value_suited g broken types t at x)
suited_in g broken types t at x class.Procedure = of_expr (value_suited g broken types t at x)
suited_in g broken types t at x class.Whole = whole_suited g broken types t at x

-- a value for a place of this type
abbrev pub value_for_place : (g : Gathers) → Rule → Types → TypeNo → Pos → Computed
    → Result Accepted g.Reported
value_for_place g broken types t at x = suited_in g broken types t at x (class_at types t)
