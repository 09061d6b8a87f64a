-- Sets: element k is there if bit k is 1.
use Rattle.std.specs.Prelude.{ℕ, ◌-◌, ◌/◌, ◌%◌, ◌^◌, ◌==◌, ℤ, pos, negsuc, Bool, true, false, not, cond, nat_lt, int_lt, bit_and, bit_or, bit_xor, Option, Some, None, Result, Ok}
use Rattle.m2_rule.specs.declared.rule.Rule.TheVariants as rule
use Rattle.m2_tree.specs.declared.pos.Pos.{Pos}
use Rattle.m2_tree.specs.declared.expr.RelOp.{RelOp}
use Rattle.m2_tree.specs.declared.expr.RelOp.TheVariants as rel
use Rattle.typed_tree.specs.declared.types.TypeNo.{TypeNo}
use Rattle.typed_tree.specs.declared.meaning.Value.{Value}
use Rattle.typed_tree.specs.declared.meaning.Value.TheVariants as value
use Rattle.check_scope.specs.Elaborated.{Gathers, report, reported_where, both, beside, ◌▷◌}
use Rattle.check_const.specs.declared.operand.Ordinal.{Ordinal}
use Rattle.check_const.specs.declared.operator.BinaryOp.{BinaryOp}
use Rattle.check_const.specs.declared.operator.BinaryOp.TheVariants.{Plus, Minus, Times, Over, Div, Mod, And, Or, Relation}
use Rattle.check_const.specs.Operands.{truth, is_number}
use Rattle.check_const.specs.Numbers.{is_between}
use Rattle.check_const.specs.Standards.{whole_number}
use Rattle.check_const.specs.Common.{common}
use Rattle.check_const.specs.Bounds.{bounds_in_order}

-- ---- operators

abbrev pub without : ℕ → ℕ → ℕ
without a b = bit_and a (bit_xor b 4294967295)

abbrev pub set_related : (g : Gathers) → Pos → RelOp → ℕ → ℕ → Result Value g.Reported
set_related g spot rel.Equal a b = Ok (truth (a == b))
set_related g spot rel.Unequal a b = Ok (truth (not (a == b)))
set_related g spot rel.Less a b = report g spot rule.WrongType
set_related g spot rel.AtMost a b = Ok (truth (without a b == 0))
set_related g spot rel.Greater a b = report g spot rule.WrongType
set_related g spot rel.AtLeast a b = Ok (truth (without b a == 0))
set_related g spot rel.In a b = report g spot rule.WrongType

abbrev pub on_sets : (g : Gathers) → BinaryOp → Pos → ℕ → ℕ → Result Value g.Reported
on_sets g Plus spot a b = Ok (value.Set (bit_or a b))
on_sets g Minus spot a b = Ok (value.Set (without a b))
on_sets g Times spot a b = Ok (value.Set (bit_and a b))
on_sets g Over spot a b = Ok (value.Set (bit_xor a b))
on_sets g Div spot a b = report g spot rule.WrongType
on_sets g Mod spot a b = report g spot rule.WrongType
on_sets g And spot a b = report g spot rule.WrongType
on_sets g Or spot a b = report g spot rule.WrongType
on_sets g (Relation r) spot a b = set_related g spot r a b

-- ---- membership

-- the element of this number, 0 if there is none
abbrev pub place : ℤ → ℕ
place (pos n) = cond (nat_lt n 32) n 0
place (negsuc n) = 0

abbrev pub has : ℕ → ℤ → Bool
has bits n = bits / 2 ^ place n % 2 == 1

abbrev pub membership_value : (g : Gathers) → Pos → Pos → Ordinal → ℕ → Result Value g.Reported
membership_value g spot at x bits =
    reported_where g (not (is_number x.sort)) spot rule.WrongType
    (reported_where g (not (is_between (pos 0) x.number (pos 31))) at rule.OutOfRange
    (Ok (truth (has bits x.number))))

abbrev pub member : (g : Gathers) → BinaryOp → Pos → Pos → Ordinal → ℕ → Result Value g.Reported
member g Plus spot at x bits = report g spot rule.WrongType
member g Minus spot at x bits = report g spot rule.WrongType
member g Times spot at x bits = report g spot rule.WrongType
member g Over spot at x bits = report g spot rule.WrongType
member g Div spot at x bits = report g spot rule.WrongType
member g Mod spot at x bits = report g spot rule.WrongType
member g And spot at x bits = report g spot rule.WrongType
member g Or spot at x bits = report g spot rule.WrongType
member g (Relation rel.Equal) spot at x bits = report g spot rule.WrongType
member g (Relation rel.Unequal) spot at x bits = report g spot rule.WrongType
member g (Relation rel.Less) spot at x bits = report g spot rule.WrongType
member g (Relation rel.AtMost) spot at x bits = report g spot rule.WrongType
member g (Relation rel.Greater) spot at x bits = report g spot rule.WrongType
member g (Relation rel.AtLeast) spot at x bits = report g spot rule.WrongType
member g (Relation rel.In) spot at x bits = membership_value g spot at x bits

-- ---- elements in braces

-- the elements 0 to n
abbrev pub up_to : ℕ → ℕ
up_to n = 4294967295 / 2 ^ (31 - n)

-- the elements from low to high are there as well
abbrev pub with_span : ℕ → ℤ → ℤ → ℕ
with_span bits low high = bit_or bits (without (up_to (place high)) (up_to (place low) / 2))

abbrev pub ordinal_or_refusal : (g : Gathers) → Pos → Option Ordinal → Result Ordinal g.Reported
ordinal_or_refusal g at None = report g at rule.WrongType
ordinal_or_refusal g at (Some a) = Ok a

abbrev pub set_element : (g : Gathers) → Pos → Value → Result Ordinal g.Reported
set_element g at v = ordinal_or_refusal g at (whole_number v)

abbrev pub is_element : (g : Gathers) → Pos → Ordinal → Result (Unit {0}) g.Reported
is_element g at a =
    reported_where g (not (is_between (pos 0) a.number (pos 31))) at rule.OutOfRange (Ok tt)

abbrev pub single : (g : Gathers) → Pos → Value → Result ℕ g.Reported
single g at v =
    set_element g at v ▷ λ a. is_element g at a ▷ λ fine. Ok (with_span 0 a.number a.number)

abbrev pub has_none : Option (Option TypeNo) → Bool
has_none None = true
has_none (Some sort) = false

-- the bounds may not be an INTEGER and a CARDINAL
abbrev pub is_unlike : Ordinal → Ordinal → Bool
is_unlike a b = has_none (common a.sort b.sort)

abbrev pub in_set : (g : Gathers) → Pos → Result Ordinal g.Reported → Result (Unit {0}) g.Reported
in_set g at a = a ▷ is_element g at

abbrev pub alike_in_order : (g : Gathers) → Pos → Pos → Ordinal → Ordinal
    → Result (Unit {0}) g.Reported
alike_in_order g at at' a b =
    reported_where g (is_unlike a b) at' rule.WrongType (bounds_in_order g at a.number b.number)

abbrev pub related_bounds : (g : Gathers) → Pos → Pos → Result Ordinal g.Reported
    → Result Ordinal g.Reported → Result (Unit {0}) g.Reported
related_bounds g at at' a b = both g a b ▷ λ p. alike_in_order g at at' p.0 p.1

-- a range of elements: each bound for itself, and both
abbrev pub span_of : (g : Gathers) → Pos → Result Ordinal g.Reported → Pos
    → Result Ordinal g.Reported → Result ℕ g.Reported
span_of g at a at' b =
    both g (both g a b)
    (beside g (beside g (in_set g at a) (in_set g at' b)) (related_bounds g at at' a b))
    ▷ λ p.
    Ok (with_span 0 p.0.0.number p.0.1.number)
