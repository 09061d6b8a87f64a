-- Bounds of ranges: of subranges, of labels and of elements of sets.
use Rattle.std.specs.Prelude.{ℤ, Bool, not, int_lt, Option, Some, None, Result, Ok}
use Rattle.m2_rule.specs.declared.rule.Rule.TheVariants as rule
use Rattle.m2_tree.specs.declared.pos.Pos.{Pos}
use Rattle.typed_tree.specs.declared.types.TypeNo.{TypeNo}
use Rattle.typed_tree.specs.Types.{are_same, is_numeric}
use Rattle.check_scope.specs.Elaborated.{Gathers, report, reported_where, both, ◌▷◌}
use Rattle.check_const.specs.declared.operand.Ordinal.{Ordinal}
use Rattle.check_const.specs.declared.operand.Operand.{Operand}
use Rattle.check_const.specs.declared.operand.Operand.TheVariants as operands
use Rattle.check_const.specs.Numbers.{fits}
use Rattle.check_const.specs.Common.{common}

-- a bound is a scalar
abbrev pub ordinal_in : (g : Gathers) → Pos → Option Operand → Result Ordinal g.Reported
ordinal_in g at None = report g at rule.WrongType
ordinal_in g at (Some (operands.Set bits)) = report g at rule.WrongType
ordinal_in g at (Some (operands.Scalar a)) = Ok a

-- a number without a type goes with INTEGER and CARDINAL
abbrev pub is_of_base : TypeNo → Option TypeNo → Bool
is_of_base base None = is_numeric base
is_of_base base (Some t) = are_same t base

-- a number without a type takes the base
abbrev pub fits_base : (g : Gathers) → Pos → TypeNo → Option TypeNo → ℤ
    → Result (Unit {0}) g.Reported
fits_base g at base (Some t) n = Ok tt
fits_base g at base None n =
    reported_where g (not (fits (Some base) n)) at rule.OutOfRange (Ok tt)

-- no range is empty
abbrev pub bounds_in_order : (g : Gathers) → Pos → ℤ → ℤ → Result (Unit {0}) g.Reported
bounds_in_order g at low high = reported_where g (int_lt high low) at rule.EmptyRange (Ok tt)

abbrev pub ordered_if : (g : Gathers) → Pos → Ordinal → Ordinal → Option (Option TypeNo)
    → Result (Unit {0}) g.Reported
ordered_if g at a b None = Ok tt
ordered_if g at a b (Some sort) = bounds_in_order g at a.number b.number

-- the order of two bounds that go together
abbrev pub are_ordered : (g : Gathers) → Pos → Result Ordinal g.Reported → Result Ordinal g.Reported
    → Result (Unit {0}) g.Reported
are_ordered g at a b = both g a b ▷ λ p. ordered_if g at p.0 p.1 (common p.0.sort p.1.sort)
