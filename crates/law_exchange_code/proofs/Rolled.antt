-- A tree with other numbers, by its outermost layer.
use Rattle.std.proofs.Common.{◌≡◌}
use Rattle.typed_tree.specs.declared.computed.Argument.{Argument, Argument-F, roll-Argument, map-Argument, fold-roll-Argument}
use Rattle.typed_tree.specs.declared.computed.Call.{Call, Call-F, roll-Call, map-Call, fold-roll-Call}
use Rattle.typed_tree.specs.declared.computed.Component.{Component, Component-F, roll-Component, map-Component, fold-roll-Component}
use Rattle.typed_tree.specs.declared.computed.Link.{Link, Link-F, roll-Link, map-Link, fold-roll-Link}
use Rattle.typed_tree.specs.declared.computed.TypedExpr.{TypedExpr, TypedExpr-F, roll-TypedExpr, map-TypedExpr, fold-roll-TypedExpr}
use Rattle.typed_tree.specs.declared.computed.Place.{Place, Place-F, roll-Place, map-Place, fold-roll-Place}
use Rattle.typed_tree.specs.declared.statement.TypedArm.{TypedArm, TypedArm-F, roll-TypedArm, map-TypedArm, fold-roll-TypedArm}
use Rattle.typed_tree.specs.declared.statement.TypedStmt.{TypedStmt, TypedStmt-F, roll-TypedStmt, map-TypedStmt, fold-roll-TypedStmt}
use Rattle.def_exchange.specs.Moved.{Exchange}
use Rattle.def_exchange.specs.MovedTrees.{argument_moved, call_moved, component_moved, link_moved, expr_moved, place_moved, moved_argument, moved_call, moved_component, moved_link, moved_expr, moved_place, stmt_moved, arm_moved, moved_stmt, moved_arm}

module _ (x : Exchange) where
  pub rolled_argument : (y : Argument-F Argument Call Component Link TypedExpr Place)
      → moved_argument x (roll-Argument y) ≡ roll-Argument
      (argument_moved x (map-Argument Argument Call Component Link TypedExpr Place Argument Call Component Link
      TypedExpr Place (moved_argument x) (moved_call x) (moved_component x) (moved_link x) (moved_expr x)
      (moved_place x) y))
  unfolding moved_argument moved_call moved_component moved_link moved_expr moved_place
  rolled_argument y = fold-roll-Argument Argument Call Component Link TypedExpr Place
      (λ y. roll-Argument (argument_moved x y)) (λ y. roll-Call (call_moved x y))
      (λ y. roll-Component (component_moved x y)) (λ y. roll-Link (link_moved x y))
      (λ y. roll-TypedExpr (expr_moved x y)) (λ y. roll-Place (place_moved x y)) y

  pub rolled_call : (y : Call-F Argument Call Component Link TypedExpr Place)
      → moved_call x (roll-Call y) ≡ roll-Call
      (call_moved x (map-Call Argument Call Component Link TypedExpr Place Argument Call Component Link TypedExpr Place
      (moved_argument x) (moved_call x) (moved_component x) (moved_link x) (moved_expr x) (moved_place x) y))
  unfolding moved_argument moved_call moved_component moved_link moved_expr moved_place
  rolled_call y = fold-roll-Call Argument Call Component Link TypedExpr Place (λ y. roll-Argument (argument_moved x y))
      (λ y. roll-Call (call_moved x y)) (λ y. roll-Component (component_moved x y)) (λ y. roll-Link (link_moved x y))
      (λ y. roll-TypedExpr (expr_moved x y)) (λ y. roll-Place (place_moved x y)) y

  pub rolled_component : (y : Component-F Argument Call Component Link TypedExpr Place)
      → moved_component x (roll-Component y)
      ≡ roll-Component (component_moved x (map-Component Argument Call Component Link TypedExpr Place Argument Call
      Component Link TypedExpr Place (moved_argument x) (moved_call x) (moved_component x) (moved_link x) (moved_expr x)
      (moved_place x) y))
  unfolding moved_argument moved_call moved_component moved_link moved_expr moved_place
  rolled_component y = fold-roll-Component Argument Call Component Link TypedExpr Place
      (λ y. roll-Argument (argument_moved x y)) (λ y. roll-Call (call_moved x y))
      (λ y. roll-Component (component_moved x y)) (λ y. roll-Link (link_moved x y))
      (λ y. roll-TypedExpr (expr_moved x y)) (λ y. roll-Place (place_moved x y)) y

  pub rolled_link : (y : Link-F Argument Call Component Link TypedExpr Place)
      → moved_link x (roll-Link y) ≡ roll-Link
      (link_moved x (map-Link Argument Call Component Link TypedExpr Place Argument Call Component Link TypedExpr Place
      (moved_argument x) (moved_call x) (moved_component x) (moved_link x) (moved_expr x) (moved_place x) y))
  unfolding moved_argument moved_call moved_component moved_link moved_expr moved_place
  rolled_link y = fold-roll-Link Argument Call Component Link TypedExpr Place (λ y. roll-Argument (argument_moved x y))
      (λ y. roll-Call (call_moved x y)) (λ y. roll-Component (component_moved x y)) (λ y. roll-Link (link_moved x y))
      (λ y. roll-TypedExpr (expr_moved x y)) (λ y. roll-Place (place_moved x y)) y

  pub rolled_expr : (y : TypedExpr-F Argument Call Component Link TypedExpr Place)
      → moved_expr x (roll-TypedExpr y) ≡ roll-TypedExpr
      (expr_moved x (map-TypedExpr Argument Call Component Link TypedExpr Place Argument Call Component Link TypedExpr
      Place (moved_argument x) (moved_call x) (moved_component x) (moved_link x) (moved_expr x) (moved_place x) y))
  unfolding moved_argument moved_call moved_component moved_link moved_expr moved_place
  rolled_expr y = fold-roll-TypedExpr Argument Call Component Link TypedExpr Place
      (λ y. roll-Argument (argument_moved x y)) (λ y. roll-Call (call_moved x y))
      (λ y. roll-Component (component_moved x y)) (λ y. roll-Link (link_moved x y))
      (λ y. roll-TypedExpr (expr_moved x y)) (λ y. roll-Place (place_moved x y)) y

  pub rolled_place : (y : Place-F Argument Call Component Link TypedExpr Place)
      → moved_place x (roll-Place y) ≡ roll-Place
      (place_moved x (map-Place Argument Call Component Link TypedExpr Place Argument Call Component Link TypedExpr
      Place (moved_argument x) (moved_call x) (moved_component x) (moved_link x) (moved_expr x) (moved_place x) y))
  unfolding moved_argument moved_call moved_component moved_link moved_expr moved_place
  rolled_place y = fold-roll-Place Argument Call Component Link TypedExpr Place
      (λ y. roll-Argument (argument_moved x y)) (λ y. roll-Call (call_moved x y))
      (λ y. roll-Component (component_moved x y)) (λ y. roll-Link (link_moved x y))
      (λ y. roll-TypedExpr (expr_moved x y)) (λ y. roll-Place (place_moved x y)) y

  pub rolled_stmt : (y : TypedStmt-F TypedStmt TypedArm)
      → moved_stmt x (roll-TypedStmt y) ≡ roll-TypedStmt
      (stmt_moved x (map-TypedStmt TypedStmt TypedArm TypedStmt TypedArm (moved_stmt x) (moved_arm x) y))
  unfolding moved_stmt moved_arm
  rolled_stmt y = fold-roll-TypedStmt TypedStmt TypedArm (λ y. roll-TypedStmt (stmt_moved x y))
      (λ y. roll-TypedArm (arm_moved x y)) y

  pub rolled_arm : (y : TypedArm-F TypedStmt TypedArm)
      → moved_arm x (roll-TypedArm y) ≡ roll-TypedArm
      (arm_moved x (map-TypedArm TypedStmt TypedArm TypedStmt TypedArm (moved_stmt x) (moved_arm x) y))
  unfolding moved_stmt moved_arm
  rolled_arm y = fold-roll-TypedArm TypedStmt TypedArm (λ y. roll-TypedStmt (stmt_moved x y))
      (λ y. roll-TypedArm (arm_moved x y)) y
