-- One layer of a tree at a time: what it means strictly.
use Rattle.std.proofs.Common.{◌≡◌, ℕ, ℤ, ap, ◌∙◌}
use Rattle.typed_tree.specs.declared.computed.Argument.{Argument, Argument-F, out-Argument, map-Argument, fold_out-Argument, fold-Argument}
use Rattle.typed_tree.specs.declared.computed.Call.{Call, Call-F, out-Call, map-Call, fold_out-Call}
use Rattle.typed_tree.specs.declared.computed.Component.{Component, Component-F, out-Component, map-Component, fold_out-Component, fold-Component}
use Rattle.typed_tree.specs.declared.computed.Link.{Link, Link-F, out-Link, map-Link, fold_out-Link, fold-Link}
use Rattle.typed_tree.specs.declared.computed.Place.{Place, Place-F, out-Place, map-Place, fold_out-Place}
use Rattle.typed_tree.specs.declared.computed.TypedExpr.{TypedExpr, TypedExpr-F, out-TypedExpr, map-TypedExpr, fold_out-TypedExpr}
use Rattle.def_meaning.specs.Store.{Location}
use Rattle.def_meaning.specs.Environment.{Modules, Passed}
use Rattle.def_meaning.specs.Expressions.{Asks, Gives, Reaches, Continues}
use Rattle.law_nothing_missing.specs.Worlds.{World}
use Rattle.law_nothing_missing.specs.Expressions.{Calls, argument_layer, call_layer, component_layer, link_layer, expr_layer, place_layer, value, locate, call_value}

module _ (lacking : ℕ) (p : Modules) (ask : Asks) (world : World) where
  unfoldable pub argument_value : Argument → Gives Passed
  argument_value = fold-Argument (Gives Passed) Calls Reaches Continues (Gives ℤ) (Gives Location)
      (argument_layer lacking p ask world) (call_layer lacking p ask world) (component_layer lacking p ask world)
      (link_layer lacking p ask world) (expr_layer lacking p ask world) (place_layer lacking p ask world)

  unfoldable pub component_value : Component → Reaches
  component_value = fold-Component (Gives Passed) Calls Reaches Continues (Gives ℤ) (Gives Location)
      (argument_layer lacking p ask world) (call_layer lacking p ask world) (component_layer lacking p ask world)
      (link_layer lacking p ask world) (expr_layer lacking p ask world) (place_layer lacking p ask world)

  unfoldable pub link_value : Link → Continues
  link_value = fold-Link (Gives Passed) Calls Reaches Continues (Gives ℤ) (Gives Location)
      (argument_layer lacking p ask world) (call_layer lacking p ask world) (component_layer lacking p ask world)
      (link_layer lacking p ask world) (expr_layer lacking p ask world) (place_layer lacking p ask world)

  abbrev pub argument_meant : Argument-F Argument Call Component Link TypedExpr Place
      → Argument-F (Gives Passed) Calls Reaches Continues (Gives ℤ) (Gives Location)
  argument_meant x = map-Argument Argument Call Component Link TypedExpr Place (Gives Passed) Calls Reaches Continues
      (Gives ℤ) (Gives Location) argument_value (call_value lacking p ask world) component_value link_value
      (value lacking p ask world) (locate lacking p ask world) x

  pub argument_means : (e : Argument) (x : Argument-F Argument Call Component Link TypedExpr Place) → out-Argument e ≡ x
      → argument_value e ≡ argument_layer lacking p ask world (argument_meant x)
  unfolding value locate call_value argument_value component_value link_value
  argument_means e x h = fold_out-Argument (Gives Passed) Calls Reaches Continues (Gives ℤ) (Gives Location)
      (argument_layer lacking p ask world) (call_layer lacking p ask world) (component_layer lacking p ask world)
      (link_layer lacking p ask world) (expr_layer lacking p ask world) (place_layer lacking p ask world) e
      ∙ ap (λ (y : Argument-F Argument Call Component Link TypedExpr Place). argument_layer lacking p ask world
      (argument_meant y)) h

  abbrev pub call_meant : Call-F Argument Call Component Link TypedExpr Place
      → Call-F (Gives Passed) Calls Reaches Continues (Gives ℤ) (Gives Location)
  call_meant x = map-Call Argument Call Component Link TypedExpr Place (Gives Passed) Calls Reaches Continues (Gives ℤ)
      (Gives Location) argument_value (call_value lacking p ask world) component_value link_value
      (value lacking p ask world) (locate lacking p ask world) x

  pub call_means : (e : Call) (x : Call-F Argument Call Component Link TypedExpr Place) → out-Call e ≡ x
      → (call_value lacking p ask world) e ≡ call_layer lacking p ask world (call_meant x)
  unfolding value locate call_value argument_value component_value link_value
  call_means e x h = fold_out-Call (Gives Passed) Calls Reaches Continues (Gives ℤ) (Gives Location)
      (argument_layer lacking p ask world) (call_layer lacking p ask world) (component_layer lacking p ask world)
      (link_layer lacking p ask world) (expr_layer lacking p ask world) (place_layer lacking p ask world) e
      ∙ ap (λ (y : Call-F Argument Call Component Link TypedExpr Place). call_layer lacking p ask world (call_meant y))
      h

  abbrev pub component_meant : Component-F Argument Call Component Link TypedExpr Place
      → Component-F (Gives Passed) Calls Reaches Continues (Gives ℤ) (Gives Location)
  component_meant x = map-Component Argument Call Component Link TypedExpr Place (Gives Passed) Calls Reaches Continues
      (Gives ℤ) (Gives Location) argument_value (call_value lacking p ask world) component_value link_value
      (value lacking p ask world) (locate lacking p ask world) x

  pub component_means : (e : Component) (x : Component-F Argument Call Component Link TypedExpr Place)
      → out-Component e ≡ x → component_value e ≡ component_layer lacking p ask world (component_meant x)
  unfolding value locate call_value argument_value component_value link_value
  component_means e x h = fold_out-Component (Gives Passed) Calls Reaches Continues (Gives ℤ) (Gives Location)
      (argument_layer lacking p ask world) (call_layer lacking p ask world) (component_layer lacking p ask world)
      (link_layer lacking p ask world) (expr_layer lacking p ask world) (place_layer lacking p ask world) e
      ∙ ap (λ (y : Component-F Argument Call Component Link TypedExpr Place). component_layer lacking p ask world
      (component_meant y)) h

  abbrev pub link_meant : Link-F Argument Call Component Link TypedExpr Place
      → Link-F (Gives Passed) Calls Reaches Continues (Gives ℤ) (Gives Location)
  link_meant x = map-Link Argument Call Component Link TypedExpr Place (Gives Passed) Calls Reaches Continues (Gives ℤ)
      (Gives Location) argument_value (call_value lacking p ask world) component_value link_value
      (value lacking p ask world) (locate lacking p ask world) x

  pub link_means : (e : Link) (x : Link-F Argument Call Component Link TypedExpr Place) → out-Link e ≡ x
      → link_value e ≡ link_layer lacking p ask world (link_meant x)
  unfolding value locate call_value argument_value component_value link_value
  link_means e x h = fold_out-Link (Gives Passed) Calls Reaches Continues (Gives ℤ) (Gives Location)
      (argument_layer lacking p ask world) (call_layer lacking p ask world) (component_layer lacking p ask world)
      (link_layer lacking p ask world) (expr_layer lacking p ask world) (place_layer lacking p ask world) e
      ∙ ap (λ (y : Link-F Argument Call Component Link TypedExpr Place). link_layer lacking p ask world (link_meant y))
      h

  abbrev pub expr_meant : TypedExpr-F Argument Call Component Link TypedExpr Place
      → TypedExpr-F (Gives Passed) Calls Reaches Continues (Gives ℤ) (Gives Location)
  expr_meant x = map-TypedExpr Argument Call Component Link TypedExpr Place (Gives Passed) Calls Reaches Continues
      (Gives ℤ) (Gives Location) argument_value (call_value lacking p ask world) component_value link_value
      (value lacking p ask world) (locate lacking p ask world) x

  pub expr_means : (e : TypedExpr) (x : TypedExpr-F Argument Call Component Link TypedExpr Place) → out-TypedExpr e ≡ x
      → (value lacking p ask world) e ≡ expr_layer lacking p ask world (expr_meant x)
  unfolding value locate call_value argument_value component_value link_value
  expr_means e x h = fold_out-TypedExpr (Gives Passed) Calls Reaches Continues (Gives ℤ) (Gives Location)
      (argument_layer lacking p ask world) (call_layer lacking p ask world) (component_layer lacking p ask world)
      (link_layer lacking p ask world) (expr_layer lacking p ask world) (place_layer lacking p ask world) e
      ∙ ap (λ (y : TypedExpr-F Argument Call Component Link TypedExpr Place). expr_layer lacking p ask world
      (expr_meant y)) h

  abbrev pub place_meant : Place-F Argument Call Component Link TypedExpr Place
      → Place-F (Gives Passed) Calls Reaches Continues (Gives ℤ) (Gives Location)
  place_meant x = map-Place Argument Call Component Link TypedExpr Place (Gives Passed) Calls Reaches Continues
      (Gives ℤ) (Gives Location) argument_value (call_value lacking p ask world) component_value link_value
      (value lacking p ask world) (locate lacking p ask world) x

  pub place_means : (e : Place) (x : Place-F Argument Call Component Link TypedExpr Place) → out-Place e ≡ x
      → (locate lacking p ask world) e ≡ place_layer lacking p ask world (place_meant x)
  unfolding value locate call_value argument_value component_value link_value
  place_means e x h = fold_out-Place (Gives Passed) Calls Reaches Continues (Gives ℤ) (Gives Location)
      (argument_layer lacking p ask world) (call_layer lacking p ask world) (component_layer lacking p ask world)
      (link_layer lacking p ask world) (expr_layer lacking p ask world) (place_layer lacking p ask world) e
      ∙ ap (λ (y : Place-F Argument Call Component Link TypedExpr Place). place_layer lacking p ask world
      (place_meant y)) h
