-- Suits of check_value, with other numbers of modules.
use Rattle.check_const.specs.declared.operand.Ordinal.{Ordinal}
use Rattle.check_scope.specs.Elaborated.{Gathers}
use Rattle.check_value.specs.Suits.{procedure_suited, run_suited, set_suited, suited_in, scalar_suited, text_within, of_expr, value_suited, known_suited, text_fits_in, text_suited, whole_suited, value_for_place, sort_suits, value_in, bases_suit, text_fits}
use Rattle.check_value.specs.declared.class.Class.{Class}
use Rattle.check_value.specs.declared.computed.Computed.{Computed}
use Rattle.check_value.specs.declared.side.Amount.TheVariants.{Known, Run}
use Rattle.check_value.specs.declared.side.Side.{Side}
use Rattle.def_exchange.specs.Moved.{moved_scalar, moved_type, moved_types, moved_value, Exchange}
use Rattle.law_exchange_types.proofs.Agreement.{headings_agree_moves}
use Rattle.law_exchange_types.proofs.Basics.{same_moves as are_same_moves, where_moves, then_map, map_then}
use Rattle.law_exchange_types.proofs.Classes.{class_at_moves, array_at_moves}
use Rattle.law_exchange_types.proofs.Known.{scalar_at_moves}
use Rattle.law_exchange_types.proofs.Numeric.{is_numeric_moves}
use Rattle.law_exchange_types.proofs.Sides.{side_of_moves}
use Rattle.law_exchange_types.proofs.Trees.{expr_Constant, expr_Procedure}
use Rattle.law_exchange_types.specs.Constants.{moved_ordinal}
use Rattle.law_exchange_types.specs.Pieces.{map_ok, moved_pair}
use Rattle.law_exchange_types.specs.Trees.{moved_expr}
use Rattle.law_exchange_types.specs.Values.{moved_accepted, moved_class, moved_computed, moved_side}
use Rattle.m2_rule.specs.declared.rule.Rule.{Rule}
use Rattle.m2_tree.specs.declared.pos.Pos.{Pos}
use Rattle.std.proofs.Common.{◌≡◌, refl, None, Option, Result, Some, option_map, ℕ}
use Rattle.typed_tree.specs.Types.{char}
use Rattle.typed_tree.specs.declared.computed.TypedExpr.{TypedExpr}
use Rattle.typed_tree.specs.declared.known_types.Types.{Types}
use Rattle.typed_tree.specs.declared.meaning.Value.{Value}
use Rattle.typed_tree.specs.declared.shape.Scalar.{Scalar as Range}
use Rattle.typed_tree.specs.declared.types.TypeNo.{TypeNo}
use Rattle.typed_tree.specs.declared.meaning.Value.TheVariants as constant
use Rattle.check_value.specs.declared.class.Class.TheVariants as class
use Rattle.check_value.specs.declared.computed.Computed.TheVariants as value
use Rattle.check_value.specs.declared.side.Side.TheVariants as side

pub bases_suit_moves : (z : Exchange) (asked : TypeNo) (base : TypeNo)
    → bases_suit (moved_type z asked) (moved_type z base) ≡ bases_suit asked base
bases_suit_moves z asked base = simp (are_same_moves, is_numeric_moves)

pub sort_suits_moves : (z : Exchange) (asked : TypeNo) (a0 : Option TypeNo)
    → sort_suits (moved_type z asked) (option_map (moved_type z) a0) ≡ sort_suits asked a0
sort_suits_moves z asked None = is_numeric_moves z asked
sort_suits_moves z asked (Some base) = bases_suit_moves z asked base

pub known_suited_moves : (z : Exchange) (g : Gathers) (broken : Rule) (t : TypeNo) (s : Range) (at : Pos) (a : Ordinal)
    → known_suited g broken (moved_type z t) (moved_scalar z s) at (moved_ordinal z a)
    ≡ map_ok (moved_expr z) (known_suited g broken t s at a)
known_suited_moves z g broken t s at a = simp (sort_suits_moves, expr_Constant, where_moves)

pub run_suited_moves : (z : Exchange) (g : Gathers) (broken : Rule) (s : Range) (at : Pos) (b : TypeNo) (e : TypedExpr)
    → run_suited g broken (moved_scalar z s) at (moved_type z b) (moved_expr z e)
    ≡ map_ok (moved_expr z) (run_suited g broken s at b e)
run_suited_moves z g broken s at b e = simp (bases_suit_moves, where_moves)

pub scalar_suited_moves : (z : Exchange) (g : Gathers) (broken : Rule) (t : TypeNo) (s : Range) (at : Pos)
    (a4 : Option Side)
    → scalar_suited g broken (moved_type z t) (moved_scalar z s) at (option_map (moved_side z) a4)
    ≡ map_ok (moved_expr z) (scalar_suited g broken t s at a4)
scalar_suited_moves z g broken t s at None = refl
scalar_suited_moves z g broken t s at (Some (side.Scalar (Known a))) = known_suited_moves z g broken t s at a
scalar_suited_moves z g broken t s at (Some (side.Scalar (Run b e))) = run_suited_moves z g broken s at b e
scalar_suited_moves z g broken t s at (Some (side.Set e)) = refl
scalar_suited_moves z g broken t s at (Some (side.Routine u e)) = refl
scalar_suited_moves z g broken t s at (Some (side.Procedure p)) = refl

pub set_suited_moves : (z : Exchange) (g : Gathers) (broken : Rule) (at : Pos) (a2 : Option Side)
    → set_suited g broken at (option_map (moved_side z) a2) ≡ map_ok (moved_expr z) (set_suited g broken at a2)
set_suited_moves z g broken at None = refl
set_suited_moves z g broken at (Some (side.Scalar a)) = refl
set_suited_moves z g broken at (Some (side.Set e)) = refl
set_suited_moves z g broken at (Some (side.Routine u e)) = refl
set_suited_moves z g broken at (Some (side.Procedure p)) = refl

pub procedure_suited_moves : (z : Exchange) (g : Gathers) (broken : Rule) (types : Types) (t : TypeNo) (at : Pos)
    (a4 : Option Side)
    → procedure_suited g broken (moved_types z types) (moved_type z t) at (option_map (moved_side z) a4)
    ≡ map_ok (moved_expr z) (procedure_suited g broken types t at a4)
procedure_suited_moves z g broken types t at None = refl
procedure_suited_moves z g broken types t at (Some (side.Scalar a)) = refl
procedure_suited_moves z g broken types t at (Some (side.Set e)) = refl
procedure_suited_moves z g broken types t at (Some (side.Routine u e)) = simp (are_same_moves, where_moves)
procedure_suited_moves z g broken types t at (Some (side.Procedure p)) =
    simp (headings_agree_moves, expr_Procedure, where_moves)

pub value_in_moves : (z : Exchange) (g : Gathers) (broken : Rule) (types : Types) (t : TypeNo) (at : Pos)
    (x : Option Side) (a5 : Class)
    → value_in g broken (moved_types z types) (moved_type z t) at (option_map (moved_side z) x) (moved_class z a5)
    ≡ map_ok (moved_expr z) (value_in g broken types t at x a5)
value_in_moves z g broken types t at x (class.Scalar s) = scalar_suited_moves z g broken t s at x
value_in_moves z g broken types t at x class.Set = set_suited_moves z g broken at x
value_in_moves z g broken types t at x class.Procedure = procedure_suited_moves z g broken types t at x
value_in_moves z g broken types t at x class.Whole = refl

pub value_suited_moves : (z : Exchange) (g : Gathers) (broken : Rule) (types : Types) (t : TypeNo) (at : Pos)
    (x : Computed)
    → value_suited g broken (moved_types z types) (moved_type z t) at (moved_computed z x)
    ≡ map_ok (moved_expr z) (value_suited g broken types t at x)
value_suited_moves z g broken types t at x = simp (value_in_moves, side_of_moves, class_at_moves)

pub text_within_moves : (z : Exchange) (length : ℕ) (a0 : Option Range)
    → text_within length (option_map (moved_scalar z) a0) ≡ text_within length a0
text_within_moves z n None = refl
text_within_moves z n (Some s) = refl

pub text_fits_in_moves : (z : Exchange) (types : Types) (length : ℕ) (a1 : Option (TypeNo × TypeNo))
    → text_fits_in (moved_types z types) length (option_map (moved_pair (moved_type z) (moved_type z)) a1)
    ≡ text_fits_in types length a1
text_fits_in_moves z types n None = refl
text_fits_in_moves z types n (Some a) = simp (are_same_moves z a.1 char, text_within_moves, scalar_at_moves)

pub text_fits_moves : (z : Exchange) (types : Types) (t : TypeNo) (length : ℕ)
    → text_fits (moved_types z types) (moved_type z t) length ≡ text_fits types t length
text_fits_moves z types t n = simp (text_fits_in_moves, array_at_moves)

pub text_suited_moves : (z : Exchange) (g : Gathers) (broken : Rule) (types : Types) (t : TypeNo) (at : Pos)
    (a4 : Value)
    → text_suited g broken (moved_types z types) (moved_type z t) at (moved_value z a4)
    ≡ map_ok (moved_accepted z) (text_suited g broken types t at a4)
text_suited_moves z g broken types t at (constant.Number n) = refl
text_suited_moves z g broken types t at (constant.Scalar s) = refl
text_suited_moves z g broken types t at (constant.Set bits) = refl
text_suited_moves z g broken types t at (constant.Text text) = simp (text_fits_moves, where_moves)

pub whole_suited_moves : (z : Exchange) (g : Gathers) (broken : Rule) (types : Types) (t : TypeNo) (at : Pos)
    (a4 : Computed)
    → whole_suited g broken (moved_types z types) (moved_type z t) at (moved_computed z a4)
    ≡ map_ok (moved_accepted z) (whole_suited g broken types t at a4)
whole_suited_moves z g broken types t at (value.Constant v) = text_suited_moves z g broken types t at v
whole_suited_moves z g broken types t at (value.Whole u d) = simp (are_same_moves, where_moves)
whole_suited_moves z g broken types t at (value.Scalar u b e) = refl
whole_suited_moves z g broken types t at (value.Set e) = refl
whole_suited_moves z g broken types t at (value.Routine u e) = refl
whole_suited_moves z g broken types t at (value.Procedure p) = refl
whole_suited_moves z g broken types t at value.Untaken = refl

pub of_expr_moves : (z : Exchange) {T : Type 0} (e : Result TypedExpr T)
    → of_expr (map_ok (moved_expr z) e) ≡ map_ok (moved_accepted z) (of_expr e)
of_expr_moves z e = simp (then_map, map_then)

pub suited_in_moves : (z : Exchange) (g : Gathers) (broken : Rule) (types : Types) (t : TypeNo) (at : Pos)
    (x : Computed) (a5 : Class)
    → suited_in g broken (moved_types z types) (moved_type z t) at (moved_computed z x) (moved_class z a5)
    ≡ map_ok (moved_accepted z) (suited_in g broken types t at x a5)
suited_in_moves z g broken types t at x (class.Scalar s) = simp (of_expr_moves, value_suited_moves)
suited_in_moves z g broken types t at x class.Set = simp (of_expr_moves, value_suited_moves)
suited_in_moves z g broken types t at x class.Procedure = simp (of_expr_moves, value_suited_moves)
suited_in_moves z g broken types t at x class.Whole = whole_suited_moves z g broken types t at x

pub value_for_place_moves : (z : Exchange) (g : Gathers) (broken : Rule) (types : Types) (t : TypeNo) (at : Pos)
    (x : Computed)
    → value_for_place g broken (moved_types z types) (moved_type z t) at (moved_computed z x)
    ≡ map_ok (moved_accepted z) (value_for_place g broken types t at x)
value_for_place_moves z g broken types t at x = simp (suited_in_moves, class_at_moves)
