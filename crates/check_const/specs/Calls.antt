-- Calls of standard procedures.
use Rattle.std.specs.Prelude.{ℕ, Option, Some, None, Result, Ok, Err}
use Rattle.m2_rule.specs.declared.rule.Rule.TheVariants as rule
use Rattle.m2_tree.specs.declared.pos.Pos.{Pos}
use Rattle.typed_tree.specs.declared.types.TypeNo.{TypeNo}
use Rattle.typed_tree.specs.declared.shape.Scalar.{Scalar}
use Rattle.typed_tree.specs.declared.meaning.Value.{Value}
use Rattle.typed_tree.specs.declared.meaning.Standard.{Standard}
use Rattle.typed_tree.specs.declared.meaning.Standard.TheVariants.{Abs, Cap, Chr, High, Max, Min, Odd, Ord, Val, Inc, Dec, Incl, Excl, Halt, Put}
use Rattle.typed_tree.specs.declared.known_types.Types.{Types}
use Rattle.typed_tree.specs.Known.{scalar_at}
use Rattle.check_scope.specs.Elaborated.{Gathers, report, both, ◌▷◌}
use Rattle.check_const.specs.Standards.{absolute, capital, character, is_odd, ordinal_of, bound_of, conversion_of}
use Rattle.check_const.specs.declared.denoted.Denoted.{Denoted}
use Rattle.check_const.specs.declared.denoted.Denoted.TheVariants as denoted
use Rattle.check_const.specs.declared.call.Sort.{Sort}
use Rattle.check_const.specs.declared.call.Sort.TheVariants.{Unary, Bound, Conversion, Never}

abbrev pub sort_of : Standard → Sort
sort_of Abs = Unary
sort_of Cap = Unary
sort_of Chr = Unary
sort_of High = Never
sort_of Max = Bound
sort_of Min = Bound
sort_of Odd = Unary
sort_of Ord = Unary
sort_of Val = Conversion
sort_of Inc = Never
sort_of Dec = Never
sort_of Incl = Never
sort_of Excl = Never
sort_of Halt = Never
sort_of Put = Never

-- ---- arguments that name a type

abbrev pub scalar_type : (g : Gathers) → Pos → TypeNo → Option Scalar
    → Result (TypeNo × Scalar) g.Reported
scalar_type g at t None = report g at rule.NoType
scalar_type g at t (Some s) = Ok (t, s)

-- the type that stands there, if it is one
abbrev pub type_in : Denoted → Option TypeNo
type_in (denoted.Type t) = Some t
type_in (denoted.Value v) = None
type_in denoted.Variable = None
type_in denoted.Procedure = None
type_in (denoted.Standard f) = None
type_in (denoted.Module k) = None

abbrev pub named_scalar : (g : Gathers) → Types → Pos → Option TypeNo
    → Result (TypeNo × Scalar) g.Reported
named_scalar g types at None = report g at rule.NoType
named_scalar g types at (Some t) = scalar_type g at t (scalar_at types t)

abbrev pub type_argument : (g : Gathers) → Types → Pos → Result (Option TypeNo) g.Reported
    → Result (TypeNo × Scalar) g.Reported
type_argument g types at t = t ▷ named_scalar g types at

-- ---- what they give

abbrev pub unary_of : (g : Gathers) → Standard → Pos → Value → Result Value g.Reported
unary_of g Abs at v = absolute g at v
unary_of g Cap at v = capital g at v
unary_of g Chr at v = character g at v
unary_of g High at v = report g at rule.NoConstant
unary_of g Max at v = report g at rule.NoConstant
unary_of g Min at v = report g at rule.NoConstant
unary_of g Odd at v = is_odd g at v
unary_of g Ord at v = ordinal_of g at v
unary_of g Val at v = report g at rule.NoConstant
unary_of g Inc at v = report g at rule.NoConstant
unary_of g Dec at v = report g at rule.NoConstant
unary_of g Incl at v = report g at rule.NoConstant
unary_of g Excl at v = report g at rule.NoConstant
unary_of g Halt at v = report g at rule.NoConstant
unary_of g Put at v = report g at rule.NoConstant

abbrev pub unary : (g : Gathers) → Standard → Result (Pos × Value) g.Reported
    → Result Value g.Reported
unary g f x = x ▷ λ p. unary_of g f p.0 p.1

abbrev pub bound_by : Standard → TypeNo → Scalar → Value
bound_by Min t s = bound_of t s s.low
bound_by Abs t s = bound_of t s s.high
bound_by Cap t s = bound_of t s s.high
bound_by Chr t s = bound_of t s s.high
bound_by High t s = bound_of t s s.high
bound_by Max t s = bound_of t s s.high
bound_by Odd t s = bound_of t s s.high
bound_by Ord t s = bound_of t s s.high
bound_by Val t s = bound_of t s s.high
bound_by Inc t s = bound_of t s s.high
bound_by Dec t s = bound_of t s s.high
bound_by Incl t s = bound_of t s s.high
bound_by Excl t s = bound_of t s s.high
bound_by Halt t s = bound_of t s s.high
bound_by Put t s = bound_of t s s.high

abbrev pub bound : {T : Type 0} → Standard → Result (TypeNo × Scalar) T → Result Value T
bound f x = x ▷ λ p. Ok (bound_by f p.0 p.1)

abbrev pub conversion_call : (g : Gathers) → Result (TypeNo × Scalar) g.Reported → Pos
    → Result Value g.Reported → Result Value g.Reported
conversion_call g to at v = both g to v ▷ λ p. conversion_of g p.0.0 p.0.1 at p.1
