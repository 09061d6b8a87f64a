-- Types of typed_tree, with other numbers of modules.
use Rattle.def_exchange.specs.Moved.{moved_type, Exchange}
use Rattle.law_exchange_types.proofs.Basics.{same_moves}
use Rattle.std.proofs.Common.{◌≡◌}
use Rattle.typed_tree.specs.Types.{cardinal, is_numeric, is_integer, integer}
use Rattle.typed_tree.specs.declared.types.TypeNo.{TypeNo}

pub is_integer_moves : (z : Exchange) (t : TypeNo)
    → is_integer (moved_type z t) ≡ is_integer t
is_integer_moves z t = same_moves z t integer

pub is_numeric_moves : (z : Exchange) (t : TypeNo)
    → is_numeric (moved_type z t) ≡ is_numeric t
is_numeric_moves z t = simp (same_moves z t integer, same_moves z t cardinal)
