-- How many procedures outwards a typed tree goes: how many lie between it and the procedure whose
-- variable it names, or in which the procedure that it calls stands.
use Rattle.std.specs.Prelude.{ℕ, List}
use Rattle.typed_tree.specs.declared.computed.Argument.{Argument, Argument-F, fold-Argument}
use Rattle.typed_tree.specs.declared.computed.Argument.TheOpen as layer
use Rattle.typed_tree.specs.declared.computed.Call.{Call, Call-F, fold-Call}
use Rattle.typed_tree.specs.declared.computed.Component.{Component, Component-F, fold-Component}
use Rattle.typed_tree.specs.declared.computed.Link.{Link, Link-F, fold-Link}
use Rattle.typed_tree.specs.declared.computed.Place.{Place, Place-F, fold-Place}
use Rattle.typed_tree.specs.declared.computed.Root.{Root}
use Rattle.typed_tree.specs.declared.computed.Root.TheVariants as root
use Rattle.typed_tree.specs.declared.computed.TypedExpr.{TypedExpr, TypedExpr-F, fold-TypedExpr}
use Rattle.typed_tree.specs.declared.statement.TypedStmt.{TypedStmt, TypedStmt-F, fold-TypedStmt}
use Rattle.typed_tree.specs.declared.statement.TypedStmt.TheOpen as step
use Rattle.typed_tree.specs.declared.statement.TypedArm.{TypedArm, TypedArm-F, fold-TypedArm}
use Rattle.typed_tree.specs.declared.typed_module.Routine.{Routine}
use Rattle.typed_tree.specs.declared.typed_module.TypedModule.{TypedModule}
use Rattle.law_encoding.specs.Nesting.{◌⊔◌, deepest_of, deepest, deepest_if}

-- ---- expressions, designators, calls and arguments

abbrev pub argument_layer : Argument-F ℕ ℕ ℕ ℕ ℕ ℕ → ℕ
argument_layer (layer.Value t e) = e
argument_layer (layer.Place d) = d
argument_layer (layer.Array t d) = d
argument_layer (layer.Open slot) = slot.up
argument_layer (layer.Text text) = 0

abbrev pub call_layer : Call-F ℕ ℕ ℕ ℕ ℕ ℕ → ℕ
call_layer (layer.Module f args) = deepest args
call_layer (layer.Nested f args) = f.up ⊔ deepest args
call_layer (layer.Variable t d args) = d ⊔ deepest args

abbrev pub component_layer : Component-F ℕ ℕ ℕ ℕ ℕ ℕ → ℕ
component_layer (layer.Field t k) = 0
component_layer (layer.Element t i) = i
component_layer (layer.OpenElement slot t i) = slot.up ⊔ i

abbrev pub outward_root : Root → ℕ
outward_root (root.Global v) = 0
outward_root (root.Local slot) = slot.up
outward_root (root.Alias slot) = slot.up
outward_root (root.Open slot) = slot.up
outward_root (root.With k) = 0

abbrev pub place_layer : Place-F ℕ ℕ ℕ ℕ ℕ ℕ → ℕ
place_layer d = outward_root d.root ⊔ deepest d.components

abbrev pub link_layer : Link-F ℕ ℕ ℕ ℕ ℕ ℕ → ℕ
link_layer (layer.Arithmetic op t b) = b
link_layer (layer.And b) = b
link_layer (layer.Or b) = b
link_layer (layer.Combine op b) = b

abbrev pub expr_layer : TypedExpr-F ℕ ℕ ℕ ℕ ℕ ℕ → ℕ
expr_layer (layer.Constant t n) = 0
expr_layer (layer.Load t d) = d
expr_layer (layer.Procedure p) = 0
expr_layer (layer.Plus t e) = e
expr_layer (layer.Negate e) = e
expr_layer (layer.Chain a links) = a ⊔ deepest links
expr_layer (layer.Compare op a b) = a ⊔ b
expr_layer (layer.Not e) = e
expr_layer (layer.Include op a b) = a ⊔ b
expr_layer (layer.In a b) = a ⊔ b
expr_layer (layer.Abs t e) = e
expr_layer (layer.Cap e) = e
expr_layer (layer.Chr e) = e
expr_layer (layer.Odd e) = e
expr_layer (layer.Ord e) = e
expr_layer (layer.Val t e) = e
expr_layer (layer.High slot) = slot.up
expr_layer (layer.Call t c) = c

unfoldable pub outward_typed : TypedExpr → ℕ
outward_typed =
    fold-TypedExpr ℕ ℕ ℕ ℕ ℕ ℕ argument_layer call_layer component_layer link_layer
    expr_layer place_layer

unfoldable pub outward_place : Place → ℕ
outward_place =
    fold-Place ℕ ℕ ℕ ℕ ℕ ℕ argument_layer call_layer component_layer link_layer
    expr_layer place_layer

unfoldable pub outward_component : Component → ℕ
outward_component =
    fold-Component ℕ ℕ ℕ ℕ ℕ ℕ argument_layer call_layer component_layer link_layer
    expr_layer place_layer

unfoldable pub outward_link : Link → ℕ
outward_link =
    fold-Link ℕ ℕ ℕ ℕ ℕ ℕ argument_layer call_layer component_layer link_layer
    expr_layer place_layer

unfoldable pub outward_call : Call → ℕ
outward_call =
    fold-Call ℕ ℕ ℕ ℕ ℕ ℕ argument_layer call_layer component_layer link_layer
    expr_layer place_layer

unfoldable pub outward_passed : Argument → ℕ
outward_passed =
    fold-Argument ℕ ℕ ℕ ℕ ℕ ℕ argument_layer call_layer component_layer link_layer
    expr_layer place_layer

-- ---- statements

abbrev pub step_layer : TypedStmt-F ℕ ℕ → ℕ
step_layer (step.Assign d t e) = outward_place d ⊔ outward_typed e
step_layer (step.Copy to from t) = outward_place to ⊔ outward_place from
step_layer (step.CopyText d t text) = outward_place d
step_layer (step.Call c) = outward_call c
step_layer (step.Put e) = outward_typed e
step_layer (step.Change o d t e) = outward_place d ⊔ outward_typed e
step_layer (step.Membership o d e) = outward_place d ⊔ outward_typed e
step_layer step.Halt = 0
step_layer (step.If e body others) = outward_typed e ⊔ deepest body ⊔ deepest_if others
step_layer (step.Case e arms others) = outward_typed e ⊔ deepest arms ⊔ deepest_if others
step_layer (step.While e body) = outward_typed e ⊔ deepest body
step_layer (step.Repeat body e) = deepest body ⊔ outward_typed e
step_layer (step.Loop body) = deepest body
step_layer step.Exit = 0
step_layer step.Return = 0
step_layer (step.Give t e) = outward_typed e
step_layer (step.For d t start limit by body) =
    outward_place d ⊔ outward_typed start ⊔ outward_typed limit ⊔ deepest body
step_layer (step.With d body) = outward_place d ⊔ deepest body

abbrev pub arm_layer : TypedArm-F ℕ ℕ → ℕ
arm_layer x = deepest x.body

unfoldable pub outward_step : TypedStmt → ℕ
outward_step = fold-TypedStmt ℕ ℕ step_layer arm_layer

unfoldable pub outward_arm : TypedArm → ℕ
outward_arm = fold-TypedArm ℕ ℕ step_layer arm_layer

abbrev pub outward_body : List TypedStmt → ℕ
outward_body xs = deepest_of outward_step xs

-- ---- modules

abbrev pub outward_routine : Routine → ℕ
outward_routine r = outward_body r.body

-- the bodies of all procedures, and the body of the module
abbrev pub outward_bodies : TypedModule → ℕ
outward_bodies m =
    deepest_of outward_routine m.procedures ⊔ deepest_of outward_routine m.locals
    ⊔ outward_body m.body
