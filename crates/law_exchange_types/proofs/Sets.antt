-- Sets of check_const, with other numbers of modules.
use Rattle.check_const.specs.Sets.{member, on_sets, is_unlike, in_set, alike_in_order, set_related, related_bounds, span_of, set_element, ordinal_or_refusal, membership_value, single, is_element, has_none}
use Rattle.check_const.specs.declared.operand.Ordinal.{Ordinal}
use Rattle.check_const.specs.declared.operator.BinaryOp.{BinaryOp}
use Rattle.check_const.specs.declared.operator.BinaryOp.TheVariants.{Plus, Minus, Times, Over, Div, Mod, And, Or, Relation}
use Rattle.check_scope.specs.Elaborated.{Gathers}
use Rattle.def_exchange.specs.Moved.{moved_type, moved_value, Exchange}
use Rattle.law_exchange_types.proofs.Basics.{where_moves, then_map, both_moves, both_left}
use Rattle.law_exchange_types.proofs.Common.{common_moves}
use Rattle.law_exchange_types.proofs.Operands.{truth_moves, is_number_moves}
use Rattle.law_exchange_types.proofs.Standards.{whole_number_moves}
use Rattle.law_exchange_types.specs.Constants.{moved_ordinal}
use Rattle.law_exchange_types.specs.Pieces.{map_ok}
use Rattle.m2_tree.specs.declared.expr.RelOp.{RelOp}
use Rattle.m2_tree.specs.declared.pos.Pos.{Pos}
use Rattle.std.proofs.Common.{◌≡◌, refl, None, Option, Result, Some, option_map, ℕ}
use Rattle.typed_tree.specs.declared.meaning.Value.{Value}
use Rattle.typed_tree.specs.declared.types.TypeNo.{TypeNo}
use Rattle.m2_tree.specs.declared.expr.RelOp.TheVariants as rel

pub set_related_moves : (z : Exchange) (g : Gathers) (spot : Pos) (a1 : RelOp) (a : ℕ) (b : ℕ)
    → map_ok (moved_value z) (set_related g spot a1 a b) ≡ set_related g spot a1 a b
set_related_moves z g spot rel.Equal a b = simp (truth_moves)
set_related_moves z g spot rel.Unequal a b = simp (truth_moves)
set_related_moves z g spot rel.Less a b = refl
set_related_moves z g spot rel.AtMost a b = simp (truth_moves)
set_related_moves z g spot rel.Greater a b = refl
set_related_moves z g spot rel.AtLeast a b = simp (truth_moves)
set_related_moves z g spot rel.In a b = refl

pub on_sets_moves : (z : Exchange) (g : Gathers) (a0 : BinaryOp) (spot : Pos) (a : ℕ) (b : ℕ)
    → map_ok (moved_value z) (on_sets g a0 spot a b) ≡ on_sets g a0 spot a b
on_sets_moves z g Plus spot a b = refl
on_sets_moves z g Minus spot a b = refl
on_sets_moves z g Times spot a b = refl
on_sets_moves z g Over spot a b = refl
on_sets_moves z g Div spot a b = refl
on_sets_moves z g Mod spot a b = refl
on_sets_moves z g And spot a b = refl
on_sets_moves z g Or spot a b = refl
on_sets_moves z g (Relation r) spot a b = set_related_moves z g spot r a b

pub membership_value_moves : (z : Exchange) (g : Gathers) (spot : Pos) (at : Pos) (x : Ordinal) (bits : ℕ)
    → membership_value g spot at (moved_ordinal z x) bits ≡ map_ok (moved_value z) (membership_value g spot at x bits)
membership_value_moves z g spot at x bits = simp (is_number_moves, truth_moves, where_moves)

pub member_moves : (z : Exchange) (g : Gathers) (a0 : BinaryOp) (spot : Pos) (at : Pos) (x : Ordinal) (bits : ℕ)
    → member g a0 spot at (moved_ordinal z x) bits ≡ map_ok (moved_value z) (member g a0 spot at x bits)
member_moves z g Plus spot at x bits = refl
member_moves z g Minus spot at x bits = refl
member_moves z g Times spot at x bits = refl
member_moves z g Over spot at x bits = refl
member_moves z g Div spot at x bits = refl
member_moves z g Mod spot at x bits = refl
member_moves z g And spot at x bits = refl
member_moves z g Or spot at x bits = refl
member_moves z g (Relation rel.Equal) spot at x bits = refl
member_moves z g (Relation rel.Unequal) spot at x bits = refl
member_moves z g (Relation rel.Less) spot at x bits = refl
member_moves z g (Relation rel.AtMost) spot at x bits = refl
member_moves z g (Relation rel.Greater) spot at x bits = refl
member_moves z g (Relation rel.AtLeast) spot at x bits = refl
member_moves z g (Relation rel.In) spot at x bits = membership_value_moves z g spot at x bits

pub ordinal_or_refusal_moves : (z : Exchange) (g : Gathers) (at : Pos) (a1 : Option Ordinal)
    → ordinal_or_refusal g at (option_map (moved_ordinal z) a1) ≡ map_ok (moved_ordinal z) (ordinal_or_refusal g at a1)
ordinal_or_refusal_moves z g at None = refl
ordinal_or_refusal_moves z g at (Some a) = refl

pub set_element_moves : (z : Exchange) (g : Gathers) (at : Pos) (v : Value)
    → set_element g at (moved_value z v) ≡ map_ok (moved_ordinal z) (set_element g at v)
set_element_moves z g at v = simp (ordinal_or_refusal_moves, whole_number_moves)

pub is_element_moves : (z : Exchange) (g : Gathers) (at : Pos) (a : Ordinal)
    → is_element g at (moved_ordinal z a) ≡ is_element g at a
is_element_moves z g at a = refl

pub single_moves : (z : Exchange) (g : Gathers) (at : Pos) (v : Value)
    → single g at (moved_value z v) ≡ single g at v
single_moves z g at v = simp (set_element_moves, is_element_moves, then_map)

pub has_none_moves : (z : Exchange) (a0 : Option (Option TypeNo))
    → has_none (option_map (option_map (moved_type z)) a0) ≡ has_none a0
has_none_moves z None = refl
has_none_moves z (Some sort) = refl

pub is_unlike_moves : (z : Exchange) (a : Ordinal) (b : Ordinal)
    → is_unlike (moved_ordinal z a) (moved_ordinal z b) ≡ is_unlike a b
is_unlike_moves z a b = simp (has_none_moves, common_moves)

pub in_set_moves : (z : Exchange) (g : Gathers) (at : Pos) (a : Result Ordinal g.Reported)
    → in_set g at (map_ok (moved_ordinal z) a) ≡ in_set g at a
in_set_moves z g at a = simp (is_element_moves, then_map)

pub alike_in_order_moves : (z : Exchange) (g : Gathers) (at : Pos) (at' : Pos) (a : Ordinal) (b : Ordinal)
    → alike_in_order g at at' (moved_ordinal z a) (moved_ordinal z b) ≡ alike_in_order g at at' a b
alike_in_order_moves z g at at' a b = simp (is_unlike_moves)

pub related_bounds_moves : (z : Exchange) (g : Gathers) (at : Pos) (at' : Pos) (a : Result Ordinal g.Reported)
    (b : Result Ordinal g.Reported)
    → related_bounds g at at' (map_ok (moved_ordinal z) a) (map_ok (moved_ordinal z) b) ≡ related_bounds g at at' a b
related_bounds_moves z g at at' a b = simp (alike_in_order_moves, then_map, both_moves)

pub span_of_moves : (z : Exchange) (g : Gathers) (at : Pos) (a : Result Ordinal g.Reported) (at' : Pos)
    (b : Result Ordinal g.Reported)
    → span_of g at (map_ok (moved_ordinal z) a) at' (map_ok (moved_ordinal z) b) ≡ span_of g at a at' b
span_of_moves z g at a at' b = simp (in_set_moves, then_map, both_moves, both_left, alike_in_order_moves)
