-- Made of check_type_expr, with other numbers of modules.
use Rattle.check_scope.specs.Elaborated.{Gathers}
use Rattle.check_scope.specs.declared.scope.Scope.{Scope}
use Rattle.check_type_expr.specs.Made.{array_in, array_of, enumeration_constant, nothing_of, with_made, enumeration_scalar, scalar_named, array_made, record_of, field_type, next_type, index_in, scalar_made, scalar_in, record_in, with_shape, scalar_or}
use Rattle.check_type_expr.specs.declared.field.Fields.{Fields}
use Rattle.def_exchange.specs.Moved.{moved_made, moved_meaning, moved_scalar, moved_type, moved_types, Exchange}
use Rattle.law_exchange_types.proofs.Basics.{then_map, map_then, where_moves, both_moves}
use Rattle.law_exchange_types.proofs.Cells.{is_index_moves, count_at_moves}
use Rattle.law_exchange_types.proofs.Known.{scalar_at_moves, cells_at_moves}
use Rattle.law_exchange_types.proofs.Named.{named_type_moves}
use Rattle.law_exchange_types.specs.Pieces.{map_ok}
use Rattle.law_exchange_types.specs.Scopes.{moved_scope, moved_state_of}
use Rattle.law_exchange_types.specs.Types.{moved_fields}
use Rattle.m2_tree.specs.declared.expr.Qualified.{Qualified}
use Rattle.m2_tree.specs.declared.name.Ident.{Ident}
use Rattle.m2_tree.specs.declared.pos.Pos.{Pos}
use Rattle.std.proofs.Common.{◌≡◌, refl, Err, List, None, Ok, Option, Result, Some, option_map, ℤ}
use Rattle.std.proofs.lemmas.List.{length-map, map-append}
use Rattle.typed_tree.specs.declared.known_types.Types.{Types}
use Rattle.typed_tree.specs.declared.shape.Made.{Made}
use Rattle.typed_tree.specs.declared.shape.Scalar.{Scalar}
use Rattle.typed_tree.specs.declared.types.TypeNo.{TypeNo}

pub next_type_moves : (z : Exchange) {T : Type 0} (s : Scope T)
    → next_type (moved_scope z s) ≡ moved_type z (next_type s)
next_type_moves z s = simp (length-map)

pub with_shape_moves : (z : Exchange) {T : Type 0} (s : Scope T) (m : Made)
    → with_shape (moved_scope z s) (moved_made z m) ≡ moved_scope z (with_shape s m)
with_shape_moves z s m = simp (map-append)

pub with_made_moves : (z : Exchange) {T : Type 0} (s : Scope T) (a1 : Result Made T)
    → with_made (moved_scope z s) (map_ok (moved_made z) a1) ≡ moved_state_of z (moved_type z) (with_made s a1)
with_made_moves z s (Ok m) = simp (with_shape_moves, next_type_moves)
with_made_moves z s (Err e) = refl

pub scalar_made_moves : (z : Exchange) {T : Type 0} (sc : Result Scalar T)
    → scalar_made (map_ok (moved_scalar z) sc) ≡ map_ok (moved_made z) (scalar_made sc)
scalar_made_moves z sc = simp (then_map, map_then)

pub enumeration_constant_moves : (z : Exchange) (t : TypeNo) (n : ℤ)
    → enumeration_constant (moved_type z t) n ≡ moved_meaning z (enumeration_constant t n)
enumeration_constant_moves z t n = refl

pub enumeration_scalar_moves : (z : Exchange) (t : TypeNo) (names : List Ident)
    → enumeration_scalar (moved_type z t) names ≡ moved_made z (enumeration_scalar t names)
enumeration_scalar_moves z t names = refl

pub scalar_or_moves : (z : Exchange) (g : Gathers) (at : Pos) (a1 : Option Scalar)
    → scalar_or g at (option_map (moved_scalar z) a1) ≡ map_ok (moved_scalar z) (scalar_or g at a1)
scalar_or_moves z g at None = refl
scalar_or_moves z g at (Some sc) = refl

pub scalar_in_moves : (z : Exchange) (g : Gathers) (types : Types) (at : Pos) (t : Result TypeNo g.Reported)
    → scalar_in g (moved_types z types) at (map_ok (moved_type z) t) ≡ map_ok (moved_scalar z) (scalar_in g types at t)
scalar_in_moves z g types at t = simp (scalar_or_moves, scalar_at_moves, then_map, map_then)

pub scalar_named_moves : (z : Exchange) (g : Gathers) (s : Scope g.Reported) (q : Qualified)
    → scalar_named g (moved_scope z s) q ≡ map_ok (moved_scalar z) (scalar_named g s q)
scalar_named_moves z g s q = simp (scalar_in_moves, named_type_moves)

pub index_in_moves : (z : Exchange) (g : Gathers) (types : Types) (at : Pos) (t : Result TypeNo g.Reported)
    → index_in g (moved_types z types) at (map_ok (moved_type z) t) ≡ map_ok (moved_type z) (index_in g types at t)
index_in_moves z g types at t = simp (is_index_moves, then_map, map_then, where_moves)

pub array_in_moves : (z : Exchange) (g : Gathers) (types : Types) (at : Pos) (i : TypeNo) (e : TypeNo)
    → array_in g (moved_types z types) at (moved_type z i) (moved_type z e)
    ≡ map_ok (moved_made z) (array_in g types at i e)
array_in_moves z g types at i e = simp (count_at_moves, cells_at_moves, map_then)

pub array_of_moves : (z : Exchange) (g : Gathers) (types : Types) (at : Pos) (i : Result TypeNo g.Reported)
    (e : Result TypeNo g.Reported)
    → array_of g (moved_types z types) at (map_ok (moved_type z) i) (map_ok (moved_type z) e)
    ≡ map_ok (moved_made z) (array_of g types at i e)
array_of_moves z g types at i e = simp (array_in_moves, then_map, map_then, both_moves)

pub array_made_moves : (z : Exchange) (g : Gathers) (at : Pos) (s : Scope g.Reported) (i : Result TypeNo g.Reported)
    (e : Result TypeNo g.Reported)
    → array_made g at (moved_scope z s) (map_ok (moved_type z) i) (map_ok (moved_type z) e)
    ≡ moved_state_of z (moved_type z) (array_made g at s i e)
array_made_moves z g at s i e = simp (with_made_moves, array_of_moves)

pub field_type_moves : (z : Exchange) {T : Type 0} (a0 : Result TypeNo T)
    → field_type (map_ok (moved_type z) a0) ≡ moved_type z (field_type a0)
field_type_moves z (Ok t) = refl
field_type_moves z (Err e) = refl

pub nothing_of_moves : (z : Exchange) {T : Type 0} (t : Result TypeNo T)
    → nothing_of (map_ok (moved_type z) t) ≡ nothing_of t
nothing_of_moves z t = simp (then_map)

pub record_in_moves : (z : Exchange) (g : Gathers) (at : Pos) (fs : Fields)
    → record_in g at (moved_fields z fs) ≡ map_ok (moved_made z) (record_in g at fs)
record_in_moves z g at fs = simp (where_moves)

pub record_of_moves : (z : Exchange) (g : Gathers) (at : Pos) (fs : Fields) (elaborated : Result (Unit {0}) g.Reported)
    → record_of g at (moved_fields z fs) elaborated ≡ map_ok (moved_made z) (record_of g at fs elaborated)
record_of_moves z g at fs elaborated = simp (record_in_moves, map_then)
