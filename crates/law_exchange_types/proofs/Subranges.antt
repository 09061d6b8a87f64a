-- Subranges of check_type_expr, with other numbers of modules.
use Rattle.check_const.specs.declared.operand.Ordinal.{Ordinal}
use Rattle.check_scope.specs.Elaborated.{Gathers, both}
use Rattle.check_type_expr.specs.Subranges.{subrange_of_base, bound_in, under, subrange_within, is_of, number_base, bound_of, subrange_between, base_of, between, are_bounds}
use Rattle.def_exchange.specs.Moved.{moved_scalar, moved_type, moved_value, Exchange}
use Rattle.law_exchange_types.proofs.Basics.{then_map, map_then, cond_in, both_moves, both_left}
use Rattle.law_exchange_types.proofs.Bounds.{ordinal_in_moves, fits_base_moves, is_of_base_moves, are_ordered_moves}
use Rattle.law_exchange_types.proofs.Common.{common_moves}
use Rattle.law_exchange_types.proofs.Operands.{operand_of_moves}
use Rattle.law_exchange_types.specs.Constants.{moved_ordinal}
use Rattle.law_exchange_types.specs.Pieces.{map_ok, moved_pair}
use Rattle.m2_tree.specs.declared.pos.Pos.{Pos}
use Rattle.std.proofs.Common.{◌≡◌, refl, None, Option, Result, Some, ap, ap₂, option_map, ℤ, ◌∙◌}
use Rattle.typed_tree.specs.declared.meaning.Value.{Value}
use Rattle.typed_tree.specs.declared.shape.Scalar.{Scalar}
use Rattle.typed_tree.specs.declared.types.TypeNo.{TypeNo}

pub bound_of_moves : (z : Exchange) (g : Gathers) (at : Pos) (v : Result Value g.Reported)
    → bound_of g at (map_ok (moved_value z) v) ≡ map_ok (moved_ordinal z) (bound_of g at v)
bound_of_moves z g at v = simp (ordinal_in_moves, operand_of_moves, then_map, map_then)

pub number_base_moves : (z : Exchange) (low : ℤ)
    → moved_type z (number_base low) ≡ number_base low
number_base_moves z low = simp (cond_in (moved_type z))

pub base_of_moves : (z : Exchange) (a0 : Option TypeNo) (low : ℤ)
    → base_of (option_map (moved_type z) a0) low ≡ moved_type z (base_of a0 low)
base_of_moves z None low = simp (number_base_moves)
base_of_moves z (Some t) low = refl

pub subrange_of_base_moves : (z : Exchange) (g : Gathers) (at : Pos) (a : Ordinal) (at' : Pos) (b : Ordinal)
    (base : TypeNo)
    → subrange_of_base g at (moved_ordinal z a) at' (moved_ordinal z b) (moved_type z base)
    ≡ map_ok (moved_scalar z) (subrange_of_base g at a at' b base)
subrange_of_base_moves z g at a at' b base = simp (fits_base_moves, map_then)

pub between_moves : (z : Exchange) (g : Gathers) (at : Pos) (a : Ordinal) (at' : Pos) (b : Ordinal)
    (a4 : Option (Option TypeNo))
    → between g at (moved_ordinal z a) at' (moved_ordinal z b) (option_map (option_map (moved_type z)) a4)
    ≡ map_ok (moved_scalar z) (between g at a at' b a4)
between_moves z g at a at' b None = refl
between_moves z g at a at' b (Some sort) = simp (subrange_of_base_moves, base_of_moves)

pub subrange_between_moves : (z : Exchange) (g : Gathers) (at : Pos) (low : Result Ordinal g.Reported) (at' : Pos)
    (high : Result Ordinal g.Reported)
    → subrange_between g at (map_ok (moved_ordinal z) low) at' (map_ok (moved_ordinal z) high)
    ≡ map_ok (moved_scalar z) (subrange_between g at low at' high)
subrange_between_moves z g at low at' high = simp (between_moves, common_moves, then_map, map_then, both_moves)

pub is_of_moves : (z : Exchange) (g : Gathers) (of : Scalar) (at : Pos) (a : Ordinal)
    → is_of g (moved_scalar z of) at (moved_ordinal z a) ≡ is_of g of at a
is_of_moves z g of at a = simp (is_of_base_moves)

pub bound_in_moves : (z : Exchange) (g : Gathers) (of : Result Scalar g.Reported) (at : Pos)
    (a : Result Ordinal g.Reported)
    → bound_in g (map_ok (moved_scalar z) of) at (map_ok (moved_ordinal z) a) ≡ bound_in g of at a
bound_in_moves z g of at a = simp (is_of_moves, then_map, both_moves)

pub are_bounds_moves : (z : Exchange) (g : Gathers) (of : Result Scalar g.Reported) (at : Pos)
    (low : Result Ordinal g.Reported) (at' : Pos) (high : Result Ordinal g.Reported)
    → are_bounds g (map_ok (moved_scalar z) of) at (map_ok (moved_ordinal z) low) at' (map_ok (moved_ordinal z) high)
    ≡ are_bounds g of at low at' high
are_bounds_moves z g of at low at' high = simp (bound_in_moves, are_ordered_moves)

pub subrange_within_moves : (z : Exchange) (g : Gathers) (parts : Result (Scalar × (Ordinal × Ordinal)) g.Reported)
    (fine : Result (Unit {0}) g.Reported)
    → subrange_within g (map_ok (moved_pair (moved_scalar z) (moved_pair (moved_ordinal z) (moved_ordinal z))) parts)
    fine ≡ map_ok (moved_scalar z) (subrange_within g parts fine)
subrange_within_moves z g parts fine = simp (then_map, map_then, both_left)

pub under_moves : (z : Exchange) (g : Gathers) (of : Result Scalar g.Reported) (at : Pos)
    (low : Result Ordinal g.Reported) (at' : Pos) (high : Result Ordinal g.Reported)
    → under g (map_ok (moved_scalar z) of) at (map_ok (moved_ordinal z) low) at' (map_ok (moved_ordinal z) high)
    ≡ map_ok (moved_scalar z) (under g of at low at' high)
under_moves z g of at low at' high =
    ap₂ (λ (p : Result (Scalar × (Ordinal × Ordinal)) g.Reported) (f : Result (Unit {0}) g.Reported). subrange_within g
    p f)
    (ap (both g (map_ok (moved_scalar z) of)) (both_moves g (moved_ordinal z) (moved_ordinal z) low high)
    ∙ both_moves g (moved_scalar z) (moved_pair (moved_ordinal z) (moved_ordinal z)) of (both g low high))
    (are_bounds_moves z g of at low at' high)
    ∙ subrange_within_moves z g (both g of (both g low high)) (are_bounds g of at low at' high)
