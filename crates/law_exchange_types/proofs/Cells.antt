-- Cells of check_type_expr, with other numbers of modules.
use Rattle.check_type_expr.specs.Cells.{count_of, is_index, count_at, is_index_scalar}
use Rattle.def_exchange.specs.Moved.{moved_scalar, moved_type, moved_types, Exchange}
use Rattle.law_exchange_types.proofs.Known.{scalar_at_moves}
use Rattle.law_exchange_types.proofs.Numeric.{is_numeric_moves}
use Rattle.std.proofs.Common.{◌≡◌, refl, None, Option, Some, option_map}
use Rattle.typed_tree.specs.declared.known_types.Types.{Types}
use Rattle.typed_tree.specs.declared.shape.Scalar.{Scalar}
use Rattle.typed_tree.specs.declared.types.TypeNo.{TypeNo}

pub count_of_moves : (z : Exchange) (a0 : Option Scalar)
    → count_of (option_map (moved_scalar z) a0) ≡ count_of a0
count_of_moves z None = refl
count_of_moves z (Some s) = refl

pub count_at_moves : (z : Exchange) (types : Types) (t : TypeNo)
    → count_at (moved_types z types) (moved_type z t) ≡ count_at types t
count_at_moves z types t = simp (count_of_moves, scalar_at_moves)

pub is_index_scalar_moves : (z : Exchange) (t : TypeNo) (a1 : Option Scalar)
    → is_index_scalar (moved_type z t) (option_map (moved_scalar z) a1) ≡ is_index_scalar t a1
is_index_scalar_moves z t None = refl
is_index_scalar_moves z t (Some s) = simp (is_numeric_moves)

pub is_index_moves : (z : Exchange) (types : Types) (t : TypeNo)
    → is_index (moved_types z types) (moved_type z t) ≡ is_index types t
is_index_moves z types t = simp (is_index_scalar_moves, scalar_at_moves)
