-- Numbers of check_const, with other numbers of modules.
use Rattle.check_const.specs.Numbers.{whole_arithmetic, number_at, fits, evaluated_at}
use Rattle.check_const.specs.declared.operator.BinaryOp.{BinaryOp}
use Rattle.check_scope.specs.Elaborated.{Gathers}
use Rattle.def_exchange.specs.Moved.{moved_type, moved_value, Exchange}
use Rattle.law_exchange_types.proofs.Basics.{where_moves}
use Rattle.law_exchange_types.proofs.Numeric.{is_integer_moves}
use Rattle.law_exchange_types.proofs.Operands.{number_value_moves}
use Rattle.law_exchange_types.specs.Pieces.{map_ok}
use Rattle.m2_tree.specs.declared.pos.Pos.{Pos}
use Rattle.std.proofs.Common.{◌≡◌, refl, None, Option, Some, option_map, ℤ}
use Rattle.typed_tree.specs.declared.types.TypeNo.{TypeNo}

pub fits_moves : (z : Exchange) (a0 : Option TypeNo) (n : ℤ)
    → fits (option_map (moved_type z) a0) n ≡ fits a0 n
fits_moves z None n = refl
fits_moves z (Some t) n = simp (is_integer_moves)

pub number_at_moves : (z : Exchange) (g : Gathers) (at : Pos) (sort : Option TypeNo) (n : ℤ)
    → number_at g at (option_map (moved_type z) sort) n ≡ map_ok (moved_value z) (number_at g at sort n)
number_at_moves z g at sort n = simp (fits_moves, number_value_moves, where_moves)

pub evaluated_at_moves : (z : Exchange) (g : Gathers) (at : Pos) (sort : Option TypeNo) (op : BinaryOp) (x : ℤ) (y : ℤ)
    → evaluated_at g at (option_map (moved_type z) sort) op x y ≡ map_ok (moved_value z) (evaluated_at g at sort op x y)
evaluated_at_moves z g at sort op x y = number_at_moves z g at sort (whole_arithmetic op x y)
