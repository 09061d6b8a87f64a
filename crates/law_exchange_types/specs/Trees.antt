-- Typed trees with other numbers of modules, layer by layer.
use Rattle.typed_tree.specs.declared.computed.LocalProcedure.{LocalProcedure}
use Rattle.typed_tree.specs.declared.computed.Argument.{Argument, Argument-F, roll-Argument}
use Rattle.typed_tree.specs.declared.computed.Call.{Call, Call-F, roll-Call}
use Rattle.typed_tree.specs.declared.computed.Component.{Component, Component-F, roll-Component}
use Rattle.typed_tree.specs.declared.computed.Link.{Link, Link-F, roll-Link}
use Rattle.typed_tree.specs.declared.computed.Place.{Place, Place-F, roll-Place}
use Rattle.typed_tree.specs.declared.computed.TypedExpr.{TypedExpr, TypedExpr-F, roll-TypedExpr}
use Rattle.def_exchange.specs.Moved.{Exchange}
use Rattle.def_exchange.specs.MovedTrees.{moved_called, argument_moved, call_moved, component_moved, link_moved, expr_moved, place_moved}
pub use Rattle.def_exchange.specs.MovedTrees.{moved_root}
unfoldable pub use Rattle.def_exchange.specs.MovedTrees.{moved_argument, moved_call, moved_component}
unfoldable pub use Rattle.def_exchange.specs.MovedTrees.{moved_link, moved_expr, moved_place}

module _ (x : Exchange) where
  abbrev pub moved_inner : LocalProcedure → LocalProcedure
  moved_inner p = moved_called x p

  abbrev pub argument_layer : Argument-F Argument Call Component Link TypedExpr Place → Argument
  argument_layer y = roll-Argument (argument_moved x y)

  abbrev pub call_layer : Call-F Argument Call Component Link TypedExpr Place → Call
  call_layer y = roll-Call (call_moved x y)

  abbrev pub component_layer : Component-F Argument Call Component Link TypedExpr Place → Component
  component_layer y = roll-Component (component_moved x y)

  abbrev pub link_layer : Link-F Argument Call Component Link TypedExpr Place → Link
  link_layer y = roll-Link (link_moved x y)

  abbrev pub expr_layer : TypedExpr-F Argument Call Component Link TypedExpr Place → TypedExpr
  expr_layer y = roll-TypedExpr (expr_moved x y)

  abbrev pub place_layer : Place-F Argument Call Component Link TypedExpr Place → Place
  place_layer y = roll-Place (place_moved x y)
