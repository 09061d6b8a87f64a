-- Calls of check_const, with other numbers of modules.
use Rattle.check_const.specs.Calls.{unary, conversion_call, type_argument, bound_by, scalar_type, unary_of, bound, type_in, named_scalar}
use Rattle.check_const.specs.declared.denoted.Denoted.{Denoted}
use Rattle.check_scope.specs.Elaborated.{Gathers}
use Rattle.def_exchange.specs.Moved.{moved_scalar, moved_type, moved_types, moved_value, Exchange}
use Rattle.law_exchange_types.proofs.Basics.{then_map, map_then, both_moves}
use Rattle.law_exchange_types.proofs.Known.{scalar_at_moves}
use Rattle.law_exchange_types.proofs.Standards.{absolute_moves, capital_moves, character_moves, is_odd_moves, ordinal_of_moves, bound_of_moves, conversion_of_moves}
use Rattle.law_exchange_types.specs.Constants.{moved_denoted}
use Rattle.law_exchange_types.specs.Pieces.{map_ok, moved_pair, same}
use Rattle.m2_tree.specs.declared.pos.Pos.{Pos}
use Rattle.std.proofs.Common.{◌≡◌, refl, None, Option, Result, Some, option_map}
use Rattle.typed_tree.specs.declared.known_types.Types.{Types}
use Rattle.typed_tree.specs.declared.meaning.Standard.{Standard}
use Rattle.typed_tree.specs.declared.meaning.Standard.TheVariants.{Abs, Cap, Chr, High, Max, Min, Odd, Ord, Val, Inc, Dec, Incl, Excl, Halt, Put}
use Rattle.typed_tree.specs.declared.meaning.Value.{Value}
use Rattle.typed_tree.specs.declared.shape.Scalar.{Scalar}
use Rattle.typed_tree.specs.declared.types.TypeNo.{TypeNo}
use Rattle.check_const.specs.declared.denoted.Denoted.TheVariants as denoted

pub scalar_type_moves : (z : Exchange) (g : Gathers) (at : Pos) (t : TypeNo) (a2 : Option Scalar)
    → scalar_type g at (moved_type z t) (option_map (moved_scalar z) a2)
    ≡ map_ok (moved_pair (moved_type z) (moved_scalar z)) (scalar_type g at t a2)
scalar_type_moves z g at t None = refl
scalar_type_moves z g at t (Some s) = refl

pub type_in_moves : (z : Exchange) (a0 : Denoted)
    → type_in (moved_denoted z a0) ≡ option_map (moved_type z) (type_in a0)
type_in_moves z (denoted.Type t) = refl
type_in_moves z (denoted.Value v) = refl
type_in_moves z denoted.Variable = refl
type_in_moves z denoted.Procedure = refl
type_in_moves z (denoted.Standard f) = refl
type_in_moves z (denoted.Module k) = refl

pub named_scalar_moves : (z : Exchange) (g : Gathers) (types : Types) (at : Pos) (a2 : Option TypeNo)
    → named_scalar g (moved_types z types) at (option_map (moved_type z) a2)
    ≡ map_ok (moved_pair (moved_type z) (moved_scalar z)) (named_scalar g types at a2)
named_scalar_moves z g types at None = refl
named_scalar_moves z g types at (Some t) = simp (scalar_type_moves, scalar_at_moves)

pub type_argument_moves : (z : Exchange) (g : Gathers) (types : Types) (at : Pos)
    (t : Result (Option TypeNo) g.Reported)
    → type_argument g (moved_types z types) at (map_ok (option_map (moved_type z)) t)
    ≡ map_ok (moved_pair (moved_type z) (moved_scalar z)) (type_argument g types at t)
type_argument_moves z g types at t = simp (named_scalar_moves, then_map, map_then)

pub unary_of_moves : (z : Exchange) (g : Gathers) (a0 : Standard) (at : Pos) (v : Value)
    → unary_of g a0 at (moved_value z v) ≡ map_ok (moved_value z) (unary_of g a0 at v)
unary_of_moves z g Abs at v = absolute_moves z g at v
unary_of_moves z g Cap at v = capital_moves z g at v
unary_of_moves z g Chr at v = character_moves z g at v
unary_of_moves z g High at v = refl
unary_of_moves z g Max at v = refl
unary_of_moves z g Min at v = refl
unary_of_moves z g Odd at v = is_odd_moves z g at v
unary_of_moves z g Ord at v = ordinal_of_moves z g at v
unary_of_moves z g Val at v = refl
unary_of_moves z g Inc at v = refl
unary_of_moves z g Dec at v = refl
unary_of_moves z g Incl at v = refl
unary_of_moves z g Excl at v = refl
unary_of_moves z g Halt at v = refl
unary_of_moves z g Put at v = refl

pub unary_moves : (z : Exchange) (g : Gathers) (f : Standard) (x : Result (Pos × Value) g.Reported)
    → unary g f (map_ok (moved_pair same (moved_value z)) x) ≡ map_ok (moved_value z) (unary g f x)
unary_moves z g f x = simp (unary_of_moves, then_map, map_then)

pub bound_by_moves : (z : Exchange) (a0 : Standard) (t : TypeNo) (s : Scalar)
    → bound_by a0 (moved_type z t) (moved_scalar z s) ≡ moved_value z (bound_by a0 t s)
bound_by_moves z Min t s = bound_of_moves z t s s.low
bound_by_moves z Abs t s = bound_of_moves z t s s.high
bound_by_moves z Cap t s = bound_of_moves z t s s.high
bound_by_moves z Chr t s = bound_of_moves z t s s.high
bound_by_moves z High t s = bound_of_moves z t s s.high
bound_by_moves z Max t s = bound_of_moves z t s s.high
bound_by_moves z Odd t s = bound_of_moves z t s s.high
bound_by_moves z Ord t s = bound_of_moves z t s s.high
bound_by_moves z Val t s = bound_of_moves z t s s.high
bound_by_moves z Inc t s = bound_of_moves z t s s.high
bound_by_moves z Dec t s = bound_of_moves z t s s.high
bound_by_moves z Incl t s = bound_of_moves z t s s.high
bound_by_moves z Excl t s = bound_of_moves z t s s.high
bound_by_moves z Halt t s = bound_of_moves z t s s.high
bound_by_moves z Put t s = bound_of_moves z t s s.high

pub bound_moves : (z : Exchange) {T : Type 0} (f : Standard) (x : Result (TypeNo × Scalar) T)
    → bound f (map_ok (moved_pair (moved_type z) (moved_scalar z)) x) ≡ map_ok (moved_value z) (bound f x)
bound_moves z f x = simp (bound_by_moves, then_map, map_then)

pub conversion_call_moves : (z : Exchange) (g : Gathers) (to : Result (TypeNo × Scalar) g.Reported) (at : Pos)
    (v : Result Value g.Reported)
    → conversion_call g (map_ok (moved_pair (moved_type z) (moved_scalar z)) to) at (map_ok (moved_value z) v)
    ≡ map_ok (moved_value z) (conversion_call g to at v)
conversion_call_moves z g to at v = simp (conversion_of_moves, then_map, map_then, both_moves)
