-- Common of check_const, with other numbers of modules.
use Rattle.check_const.specs.Common.{common}
use Rattle.def_exchange.specs.Moved.{moved_type, Exchange}
use Rattle.law_exchange_types.proofs.Basics.{if_in, same_moves as are_same_moves}
use Rattle.law_exchange_types.proofs.Numeric.{is_numeric_moves}
use Rattle.std.proofs.Common.{◌≡◌, refl, None, Option, Some, option_map}
use Rattle.typed_tree.specs.declared.types.TypeNo.{TypeNo}

pub common_moves : (z : Exchange) (a0 : Option TypeNo) (a1 : Option TypeNo)
    → common (option_map (moved_type z) a0) (option_map (moved_type z) a1)
    ≡ option_map (option_map (moved_type z)) (common a0 a1)
common_moves z None None = refl
common_moves z None (Some t) = simp (is_numeric_moves, if_in (option_map (option_map (moved_type z))))
common_moves z (Some t) None = simp (is_numeric_moves, if_in (option_map (option_map (moved_type z))))
common_moves z (Some t) (Some u) = simp (are_same_moves, if_in (option_map (option_map (moved_type z))))
