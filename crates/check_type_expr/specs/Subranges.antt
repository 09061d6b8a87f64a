-- Subranges.
use Rattle.std.specs.Prelude.{ℕ, ℤ, pos, Bool, not, cond, int_lt, Option, Some, None, Result, Ok}
use Rattle.m2_rule.specs.declared.rule.Rule.TheVariants as rule
use Rattle.m2_tree.specs.declared.pos.Pos.{Pos}
use Rattle.typed_tree.specs.declared.types.TypeNo.{TypeNo}
use Rattle.typed_tree.specs.declared.shape.Scalar.{Scalar}
use Rattle.typed_tree.specs.declared.meaning.Value.{Value}
use Rattle.typed_tree.specs.Types.{are_same, is_numeric, integer, cardinal}
use Rattle.check_scope.specs.Elaborated.{Gathers, report, reported_where, both, beside, ◌▷◌}
use Rattle.check_const.specs.declared.operand.Ordinal.{Ordinal}
use Rattle.check_const.specs.declared.operand.Operand.{Operand}
use Rattle.check_const.specs.declared.operand.Operand.TheVariants as operands
use Rattle.check_const.specs.Operands.{operand_of}
use Rattle.check_const.specs.Numbers.{is_between, fits}
use Rattle.check_const.specs.Common.{common}
use Rattle.check_const.specs.Bounds.{ordinal_in, is_of_base, fits_base, bounds_in_order, are_ordered}

-- ---- bounds

-- a bound is a scalar
abbrev pub bound_of : (g : Gathers) → Pos → Result Value g.Reported → Result Ordinal g.Reported
bound_of g at v = v ▷ λ x. ordinal_in g at (operand_of x)

-- ---- with no type named

-- of numbers without a type
abbrev pub number_base : ℤ → TypeNo
number_base low = cond (int_lt low (pos 0)) integer cardinal

abbrev pub base_of : Option TypeNo → ℤ → TypeNo
base_of None low = number_base low
base_of (Some t) low = t

abbrev pub subrange_of_base : (g : Gathers) → Pos → Ordinal → Pos → Ordinal → TypeNo
    → Result Scalar g.Reported
subrange_of_base g at a at' b base =
    beside g (bounds_in_order g at a.number b.number)
    (beside g (fits_base g at base a.sort a.number) (fits_base g at' base b.sort b.number))
    ▷ λ fine.
    Ok (record { base = base; low = a.number; high = b.number })

abbrev pub between : (g : Gathers) → Pos → Ordinal → Pos → Ordinal → Option (Option TypeNo)
    → Result Scalar g.Reported
between g at a at' b None = report g at' rule.WrongType
between g at a at' b (Some sort) = subrange_of_base g at a at' b (base_of sort a.number)

abbrev pub subrange_between : (g : Gathers) → Pos → Result Ordinal g.Reported → Pos
    → Result Ordinal g.Reported → Result Scalar g.Reported
subrange_between g at low at' high =
    both g low high ▷ λ p. between g at p.0 at' p.1 (common p.0.sort p.1.sort)

-- ---- under a named type

abbrev pub is_of : (g : Gathers) → Scalar → Pos → Ordinal → Result (Unit {0}) g.Reported
is_of g of at a =
    reported_where g (not (is_of_base of.base a.sort)) at rule.WrongType
    (reported_where g (not (is_between of.low a.number of.high)) at rule.OutOfRange (Ok tt))

abbrev pub bound_in : (g : Gathers) → Result Scalar g.Reported → Pos → Result Ordinal g.Reported
    → Result (Unit {0}) g.Reported
bound_in g of at a = both g of a ▷ λ p. is_of g p.0 at p.1

abbrev pub are_bounds : (g : Gathers) → Result Scalar g.Reported → Pos → Result Ordinal g.Reported
    → Pos → Result Ordinal g.Reported → Result (Unit {0}) g.Reported
are_bounds g of at low at' high =
    beside g (beside g (bound_in g of at low) (bound_in g of at' high))
    (are_ordered g at low high)

abbrev pub subrange_within : (g : Gathers) → Result (Scalar × (Ordinal × Ordinal)) g.Reported
    → Result (Unit {0}) g.Reported → Result Scalar g.Reported
subrange_within g parts fine =
    both g parts fine ▷ λ p.
    Ok (record { base = p.0.0.base; low = p.0.1.0.number; high = p.0.1.1.number })

abbrev pub under : (g : Gathers) → Result Scalar g.Reported → Pos → Result Ordinal g.Reported → Pos
    → Result Ordinal g.Reported → Result Scalar g.Reported
under g of at low at' high =
    subrange_within g (both g of (both g low high)) (are_bounds g of at low at' high)
