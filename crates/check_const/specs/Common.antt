-- The type of two operands.
use Rattle.std.specs.Prelude.{Option, Some, None, if◌then◌else◌}
use Rattle.typed_tree.specs.declared.types.TypeNo.{TypeNo}
use Rattle.typed_tree.specs.Types.{are_same, is_numeric}

-- the type of two scalars, if they go together; a number without a type takes the type of the other
abbrev pub common : Option TypeNo → Option TypeNo → Option (Option TypeNo)
common None None = Some None
common None (Some t) = if is_numeric t then Some (Some t) else None
common (Some t) None = if is_numeric t then Some (Some t) else None
common (Some t) (Some u) = if are_same t u then Some (Some t) else None
