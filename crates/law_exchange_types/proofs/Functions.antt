-- Functions of check_value, with other numbers of modules.
use Rattle.check_scope.specs.Elaborated.{Gathers}
use Rattle.check_value.specs.Functions.{type_named, unary_scalar, converted_value, unary_takes, unary_at, unary_built, conversion_at, high_of, converted_scalar, bound_at}
use Rattle.check_value.specs.declared.computed.Computed.{Computed}
use Rattle.check_value.specs.declared.computed.Designated.{Designated}
use Rattle.check_value.specs.declared.standard.Unary.{Unary}
use Rattle.def_exchange.specs.Moved.{moved_scalar, moved_type, moved_types, Exchange}
use Rattle.law_exchange_types.proofs.Basics.{same_moves as are_same_moves, where_moves, then_map, map_then, both_moves}
use Rattle.law_exchange_types.proofs.Calls.{unary_of_moves, scalar_type_moves, bound_by_moves}
use Rattle.law_exchange_types.proofs.Known.{scalar_at_moves}
use Rattle.law_exchange_types.proofs.Numeric.{is_numeric_moves}
use Rattle.law_exchange_types.proofs.Operations.{of_value_moves}
use Rattle.law_exchange_types.proofs.Standards.{conversion_of_moves}
use Rattle.law_exchange_types.proofs.Trees.{expr_Abs, expr_Cap, expr_Chr, expr_Odd, expr_Ord, expr_Val, expr_High}
use Rattle.law_exchange_types.specs.Pieces.{map_ok, moved_pair}
use Rattle.law_exchange_types.specs.Trees.{moved_expr}
use Rattle.law_exchange_types.specs.Values.{moved_computed, moved_designated}
use Rattle.m2_tree.specs.declared.pos.Pos.{Pos}
use Rattle.std.proofs.Common.{◌≡◌, refl, Result}
use Rattle.typed_tree.specs.Types.{char}
use Rattle.typed_tree.specs.declared.computed.TypedExpr.{TypedExpr}
use Rattle.typed_tree.specs.declared.known_types.Types.{Types}
use Rattle.typed_tree.specs.declared.meaning.Standard.{Standard}
use Rattle.typed_tree.specs.declared.shape.Scalar.{Scalar as Range}
use Rattle.typed_tree.specs.declared.types.TypeNo.{TypeNo}
use Rattle.check_value.specs.declared.computed.Computed.TheVariants as value
use Rattle.check_value.specs.declared.computed.Designated.TheVariants as designated
use Rattle.check_value.specs.declared.standard.Unary.TheVariants as unary

pub unary_takes_moves : (z : Exchange) (a0 : Unary) (b : TypeNo)
    → unary_takes a0 (moved_type z b) ≡ unary_takes a0 b
unary_takes_moves z unary.Abs b = is_numeric_moves z b
unary_takes_moves z unary.Cap b = are_same_moves z b char
unary_takes_moves z unary.Chr b = is_numeric_moves z b
unary_takes_moves z unary.Odd b = is_numeric_moves z b
unary_takes_moves z unary.Ord b = refl

pub unary_built_moves : (z : Exchange) (a0 : Unary) (b : TypeNo) (e : TypedExpr)
    → unary_built a0 (moved_type z b) (moved_expr z e) ≡ moved_computed z (unary_built a0 b e)
unary_built_moves z unary.Abs b e = simp (expr_Abs)
unary_built_moves z unary.Cap b e = simp (expr_Cap)
unary_built_moves z unary.Chr b e = simp (expr_Chr)
unary_built_moves z unary.Odd b e = simp (expr_Odd)
unary_built_moves z unary.Ord b e = simp (expr_Ord)

pub unary_scalar_moves : (z : Exchange) (g : Gathers) (u : Unary) (at : Pos) (b : TypeNo) (e : TypedExpr)
    → unary_scalar g u at (moved_type z b) (moved_expr z e) ≡ map_ok (moved_computed z) (unary_scalar g u at b e)
unary_scalar_moves z g u at b e = simp (unary_takes_moves, unary_built_moves, where_moves)

pub unary_at_moves : (z : Exchange) (g : Gathers) (f : Standard) (u : Unary) (at : Pos) (a3 : Computed)
    → unary_at g f u at (moved_computed z a3) ≡ map_ok (moved_computed z) (unary_at g f u at a3)
unary_at_moves z g f u at (value.Constant v) = simp (of_value_moves, unary_of_moves)
unary_at_moves z g f u at (value.Scalar t b e) = unary_scalar_moves z g u at b e
unary_at_moves z g f u at (value.Set e) = refl
unary_at_moves z g f u at (value.Routine t e) = refl
unary_at_moves z g f u at (value.Procedure p) = refl
unary_at_moves z g f u at (value.Whole t d) = refl
unary_at_moves z g f u at value.Untaken = refl

pub type_named_moves : (z : Exchange) (g : Gathers) (types : Types) (at : Pos) (a2 : Designated)
    → type_named g (moved_types z types) at (moved_designated z a2)
    ≡ map_ok (moved_pair (moved_type z) (moved_scalar z)) (type_named g types at a2)
type_named_moves z g types at (designated.Type t) = simp (scalar_type_moves, scalar_at_moves)
type_named_moves z g types at (designated.Value x) = refl
type_named_moves z g types at (designated.Variable t d) = refl
type_named_moves z g types at (designated.Open t slot) = refl
type_named_moves z g types at (designated.Procedure p) = refl
type_named_moves z g types at (designated.Nested p) = refl
type_named_moves z g types at (designated.Standard f) = refl
type_named_moves z g types at (designated.Module k) = refl

pub bound_at_moves : (z : Exchange) {T : Type 0} (f : Standard) (x : Result (TypeNo × Range) T)
    → bound_at f (map_ok (moved_pair (moved_type z) (moved_scalar z)) x) ≡ map_ok (moved_computed z) (bound_at f x)
bound_at_moves z f x = simp (bound_by_moves, then_map, map_then)

pub converted_scalar_moves : (z : Exchange) (g : Gathers) (t : TypeNo) (s : Range) (at : Pos) (b : TypeNo)
    (e : TypedExpr)
    → converted_scalar g (moved_type z t) (moved_scalar z s) at (moved_type z b) (moved_expr z e)
    ≡ map_ok (moved_computed z) (converted_scalar g t s at b e)
converted_scalar_moves z g t s at b e = simp (is_numeric_moves, expr_Val, where_moves)

pub converted_value_moves : (z : Exchange) (g : Gathers) (t : TypeNo) (s : Range) (at : Pos) (a3 : Computed)
    → converted_value g (moved_type z t) (moved_scalar z s) at (moved_computed z a3)
    ≡ map_ok (moved_computed z) (converted_value g t s at a3)
converted_value_moves z g t s at (value.Constant v) = simp (of_value_moves, conversion_of_moves)
converted_value_moves z g t s at (value.Scalar u b e) = converted_scalar_moves z g t s at b e
converted_value_moves z g t s at (value.Set e) = refl
converted_value_moves z g t s at (value.Routine u e) = refl
converted_value_moves z g t s at (value.Procedure p) = refl
converted_value_moves z g t s at (value.Whole u d) = refl
converted_value_moves z g t s at value.Untaken = refl

pub conversion_at_moves : (z : Exchange) (g : Gathers) (to : Result (TypeNo × Range) g.Reported) (at : Pos)
    (x : Result Computed g.Reported)
    → conversion_at g (map_ok (moved_pair (moved_type z) (moved_scalar z)) to) at (map_ok (moved_computed z) x)
    ≡ map_ok (moved_computed z) (conversion_at g to at x)
conversion_at_moves z g to at x = simp (converted_value_moves, then_map, map_then, both_moves)

pub high_of_moves : (z : Exchange) (g : Gathers) (at : Pos) (a1 : Designated)
    → high_of g at (moved_designated z a1) ≡ map_ok (moved_computed z) (high_of g at a1)
high_of_moves z g at (designated.Open t slot) = simp (expr_High)
high_of_moves z g at (designated.Value x) = refl
high_of_moves z g at (designated.Variable t d) = refl
high_of_moves z g at (designated.Type t) = refl
high_of_moves z g at (designated.Procedure p) = refl
high_of_moves z g at (designated.Nested p) = refl
high_of_moves z g at (designated.Standard f) = refl
high_of_moves z g at (designated.Module k) = refl
