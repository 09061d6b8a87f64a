-- Typed statements with other numbers of modules.
use Rattle.check_value.specs.declared.effect.Target.{Target}
use Rattle.check_value.specs.declared.effect.Target.TheVariants as target
use Rattle.typed_tree.specs.declared.statement.TypedArm.{TypedArm, TypedArm-F, roll-TypedArm}
use Rattle.typed_tree.specs.declared.statement.TypedStmt.{TypedStmt, TypedStmt-F, roll-TypedStmt}
use Rattle.def_exchange.specs.Moved.{Exchange, moved_type}
use Rattle.def_exchange.specs.MovedTrees.{stmt_moved, arm_moved}
use Rattle.law_exchange_types.specs.Trees.{moved_place}
unfoldable pub use Rattle.def_exchange.specs.MovedTrees.{moved_stmt, moved_arm}

module _ (x : Exchange) where
  -- ---- the left side of an assignment

  abbrev pub moved_target : Target → Target
  moved_target (target.Variable t d) = target.Variable (moved_type x t) (moved_place x d)
  moved_target target.Open = target.Open

  -- ---- of a layer, whose parts have moved

  abbrev pub stmt_layer : TypedStmt-F TypedStmt TypedArm → TypedStmt
  stmt_layer y = roll-TypedStmt (stmt_moved x y)

  abbrev pub arm_layer : TypedArm-F TypedStmt TypedArm → TypedArm
  arm_layer y = roll-TypedArm (arm_moved x y)
