-- Chains of operators, and components behind variables.
use Rattle.std.specs.Prelude.{[], ◌∷◌, ◌++◌}
use Rattle.typed_tree.specs.declared.computed.Argument.{Argument}
use Rattle.typed_tree.specs.declared.computed.Call.{Call}
use Rattle.typed_tree.specs.declared.computed.Component.{Component}
use Rattle.typed_tree.specs.declared.computed.Link.{Link}
use Rattle.typed_tree.specs.declared.computed.Place.{Place}
use Rattle.typed_tree.specs.declared.computed.Root.{Root}
use Rattle.typed_tree.specs.declared.computed.TypedExpr.{TypedExpr, TypedExpr-F, out-TypedExpr}
use Rattle.typed_tree.specs.declared.computed.Argument.TheOpen as layer
use Rattle.typed_tree.specs.declared.computed.TypedExpr.TheVariants.{Chain}

-- one more operator: it joins a chain that stands there
abbrev pub linked_to : TypedExpr-F Argument Call Component Link TypedExpr Place → TypedExpr → Link
    → TypedExpr
linked_to (layer.Chain first links) e l = Chain first (links ++ l ∷ [])
linked_to _ e l = Chain e (l ∷ [])

abbrev pub link_operand : TypedExpr → Link → TypedExpr
link_operand e l = linked_to (out-TypedExpr e) e l

-- a variable alone, and a component more
abbrev pub root_place : Root → Place
root_place r = record { root = r; components = [] }

abbrev pub behind : Place → Component → Place
behind d c = record { root = d.root; components = d.components ++ c ∷ [] }
