-- How deep typed trees nest: no less than their code.
use Rattle.std.specs.Prelude.{ℕ, ◌+◌, List}
use Rattle.typed_tree.specs.declared.computed.Argument.{Argument, Argument-F, fold-Argument}
use Rattle.typed_tree.specs.declared.computed.Argument.TheOpen as layer
use Rattle.typed_tree.specs.declared.computed.Call.{Call, Call-F, fold-Call}
use Rattle.typed_tree.specs.declared.computed.Component.{Component, Component-F, fold-Component}
use Rattle.typed_tree.specs.declared.computed.Link.{Link, Link-F, fold-Link}
use Rattle.typed_tree.specs.declared.computed.Place.{Place, Place-F, fold-Place}
use Rattle.typed_tree.specs.declared.computed.TypedExpr.{TypedExpr, TypedExpr-F, fold-TypedExpr}
use Rattle.typed_tree.specs.declared.statement.TypedStmt.{TypedStmt, TypedStmt-F, fold-TypedStmt}
use Rattle.typed_tree.specs.declared.statement.TypedStmt.TheOpen as step
use Rattle.typed_tree.specs.declared.statement.TypedArm.{TypedArm, TypedArm-F, fold-TypedArm}
use Rattle.typed_tree.specs.declared.typed_module.Routine.{Routine}
use Rattle.typed_tree.specs.declared.typed_module.TypedModule.{TypedModule}
use Rattle.law_encoding.specs.Nesting.{◌⊔◌, deepest_of, deepest, deepest_if}
use Rattle.law_encoding.specs.Nesting.{case_levels, if_levels, loop_levels}

-- ---- expressions, designators, calls and arguments

abbrev pub argument_layer : Argument-F ℕ ℕ ℕ ℕ ℕ ℕ → ℕ
argument_layer (layer.Value t e) = 1 ⊔ e
argument_layer (layer.Place d) = 1 ⊔ d
argument_layer (layer.Array t d) = 1 ⊔ d
argument_layer (layer.Open slot) = 1
argument_layer (layer.Text text) = 1

abbrev pub call_layer : Call-F ℕ ℕ ℕ ℕ ℕ ℕ → ℕ
call_layer (layer.Module f args) = 1 ⊔ deepest args
call_layer (layer.Nested f args) = 1 ⊔ deepest args
call_layer (layer.Variable t d args) = 1 ⊔ d ⊔ deepest args

abbrev pub component_layer : Component-F ℕ ℕ ℕ ℕ ℕ ℕ → ℕ
component_layer (layer.Field t k) = 1
component_layer (layer.Element t i) = 1 ⊔ i
component_layer (layer.OpenElement slot t i) = 1 ⊔ i

abbrev pub place_layer : Place-F ℕ ℕ ℕ ℕ ℕ ℕ → ℕ
place_layer d = 1 ⊔ deepest d.components

-- the second operand of AND and of OR stands in a side of an IF
abbrev pub link_layer : Link-F ℕ ℕ ℕ ℕ ℕ ℕ → ℕ
link_layer (layer.Arithmetic op t b) = 1 + b
link_layer (layer.And b) = 1 + b
link_layer (layer.Or b) = 1 + b
link_layer (layer.Combine op b) = 1 + b

abbrev pub expr_layer : TypedExpr-F ℕ ℕ ℕ ℕ ℕ ℕ → ℕ
expr_layer (layer.Constant t n) = 1
expr_layer (layer.Load t d) = 1 ⊔ d
expr_layer (layer.Procedure p) = 1
expr_layer (layer.Plus t e) = 1 ⊔ e
expr_layer (layer.Negate e) = 1 ⊔ e
expr_layer (layer.Chain a links) = 1 ⊔ a ⊔ deepest links
expr_layer (layer.Compare op a b) = 1 ⊔ a ⊔ b
expr_layer (layer.Not e) = 1 ⊔ e
expr_layer (layer.Include op a b) = 1 ⊔ a ⊔ b
expr_layer (layer.In a b) = 1 ⊔ a ⊔ b
expr_layer (layer.Abs t e) = 1 ⊔ e
expr_layer (layer.Cap e) = 1 ⊔ e
expr_layer (layer.Chr e) = 1 ⊔ e
expr_layer (layer.Odd e) = 1 ⊔ e
expr_layer (layer.Ord e) = 1 ⊔ e
expr_layer (layer.Val t e) = 1 ⊔ e
expr_layer (layer.High slot) = 1
expr_layer (layer.Call t c) = 1 ⊔ c

unfoldable pub depth_typed : TypedExpr → ℕ
depth_typed =
    fold-TypedExpr ℕ ℕ ℕ ℕ ℕ ℕ argument_layer call_layer component_layer link_layer
    expr_layer place_layer

unfoldable pub depth_place : Place → ℕ
depth_place =
    fold-Place ℕ ℕ ℕ ℕ ℕ ℕ argument_layer call_layer component_layer link_layer
    expr_layer place_layer

unfoldable pub depth_component : Component → ℕ
depth_component =
    fold-Component ℕ ℕ ℕ ℕ ℕ ℕ argument_layer call_layer component_layer link_layer
    expr_layer place_layer

unfoldable pub depth_link : Link → ℕ
depth_link =
    fold-Link ℕ ℕ ℕ ℕ ℕ ℕ argument_layer call_layer component_layer link_layer
    expr_layer place_layer

unfoldable pub depth_call : Call → ℕ
depth_call =
    fold-Call ℕ ℕ ℕ ℕ ℕ ℕ argument_layer call_layer component_layer link_layer
    expr_layer place_layer

unfoldable pub depth_passed : Argument → ℕ
depth_passed =
    fold-Argument ℕ ℕ ℕ ℕ ℕ ℕ argument_layer call_layer component_layer link_layer
    expr_layer place_layer

-- ---- statements

abbrev pub step_layer : TypedStmt-F ℕ ℕ → ℕ
step_layer (step.Assign d t e) = 1 ⊔ depth_place d ⊔ depth_typed e
step_layer (step.Copy to from t) = 1 ⊔ depth_place to ⊔ depth_place from
step_layer (step.CopyText d t text) = 1 ⊔ depth_place d
step_layer (step.Call c) = depth_call c
step_layer (step.Put e) = 1 ⊔ depth_typed e
step_layer (step.Change o d t e) = 1 ⊔ depth_place d ⊔ depth_typed e
step_layer (step.Membership o d e) = 1 ⊔ depth_place d ⊔ depth_typed e
step_layer step.Halt = 1
step_layer (step.If e body others) =
    if_levels + (depth_typed e ⊔ deepest body ⊔ deepest_if others)
step_layer (step.Case e arms others) =
    case_levels + (depth_typed e ⊔ deepest arms ⊔ deepest_if others)
step_layer (step.While e body) = loop_levels + (depth_typed e ⊔ deepest body)
step_layer (step.Repeat body e) = if_levels + (deepest body ⊔ depth_typed e)
step_layer (step.Loop body) = loop_levels + deepest body
step_layer step.Exit = 1
step_layer step.Return = 1
step_layer (step.Give t e) = 1 ⊔ depth_typed e
step_layer (step.For d t start limit by body) =
    loop_levels + (depth_place d ⊔ depth_typed start ⊔ depth_typed limit ⊔ deepest body)
step_layer (step.With d body) = 1 ⊔ depth_place d ⊔ deepest body

abbrev pub arm_layer : TypedArm-F ℕ ℕ → ℕ
arm_layer x = deepest x.body

unfoldable pub depth_step : TypedStmt → ℕ
depth_step = fold-TypedStmt ℕ ℕ step_layer arm_layer

unfoldable pub depth_arm : TypedArm → ℕ
depth_arm = fold-TypedArm ℕ ℕ step_layer arm_layer

abbrev pub depth_body : List TypedStmt → ℕ
depth_body xs = deepest_of depth_step xs

-- ---- modules

abbrev pub depth_routine : Routine → ℕ
depth_routine r = depth_body r.body

-- the bodies of all procedures, and the body of the module
abbrev pub depth_bodies : TypedModule → ℕ
depth_bodies m =
    deepest_of depth_routine m.procedures ⊔ deepest_of depth_routine m.locals
    ⊔ depth_body m.body
