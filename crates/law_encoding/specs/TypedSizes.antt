-- How large typed trees are: how many nodes they have, and some nodes count for more than one. The
-- code of a tree takes no
-- more than a fixed number of bytes for each.
use Rattle.std.specs.Prelude.{ℕ, ◌+◌, ◌*◌, List, length}
use Rattle.typed_tree.specs.declared.computed.Argument.{Argument, Argument-F, fold-Argument}
use Rattle.typed_tree.specs.declared.computed.Argument.TheOpen as layer
use Rattle.typed_tree.specs.declared.computed.Call.{Call, Call-F, fold-Call}
use Rattle.typed_tree.specs.declared.computed.Component.{Component, Component-F, fold-Component}
use Rattle.typed_tree.specs.declared.computed.Link.{Link, Link-F, fold-Link}
use Rattle.typed_tree.specs.declared.computed.Place.{Place, Place-F, fold-Place}
use Rattle.typed_tree.specs.declared.computed.TypedExpr.{TypedExpr, TypedExpr-F, fold-TypedExpr}
use Rattle.typed_tree.specs.declared.statement.TypedStmt.{TypedStmt, TypedStmt-F, fold-TypedStmt}
use Rattle.typed_tree.specs.declared.statement.TypedStmt.TheOpen as step
use Rattle.typed_tree.specs.declared.statement.TypedArm.{TypedArm, TypedArm-F, fold-TypedArm}
use Rattle.typed_tree.specs.declared.typed_module.Routine.{Routine}
use Rattle.typed_tree.specs.declared.typed_module.TypedModule.{TypedModule}
use Rattle.law_encoding.specs.Sizes.{sum_of, total, all_if_there}

-- ---- expressions, designators, calls and arguments

abbrev pub argument_layer : Argument-F ℕ ℕ ℕ ℕ ℕ ℕ → ℕ
argument_layer (layer.Value t e) = 1 + e
argument_layer (layer.Place d) = 1 + d
argument_layer (layer.Array t d) = 1 + d
argument_layer (layer.Open slot) = 2
argument_layer (layer.Text text) = 1

abbrev pub call_layer : Call-F ℕ ℕ ℕ ℕ ℕ ℕ → ℕ
call_layer (layer.Module f args) = 1 + total args
call_layer (layer.Nested f args) = 1 + total args
call_layer (layer.Variable t d args) = 1 + d + total args

abbrev pub component_layer : Component-F ℕ ℕ ℕ ℕ ℕ ℕ → ℕ
component_layer (layer.Field t k) = 1
component_layer (layer.Element t i) = 1 + i
component_layer (layer.OpenElement slot t i) = 1 + i

abbrev pub place_layer : Place-F ℕ ℕ ℕ ℕ ℕ ℕ → ℕ
place_layer d = 1 + total d.components

abbrev pub link_layer : Link-F ℕ ℕ ℕ ℕ ℕ ℕ → ℕ
link_layer (layer.Arithmetic op t b) = 1 + b
link_layer (layer.And b) = 1 + b
link_layer (layer.Or b) = 1 + b
link_layer (layer.Combine op b) = 1 + b

abbrev pub expr_layer : TypedExpr-F ℕ ℕ ℕ ℕ ℕ ℕ → ℕ
expr_layer (layer.Constant t n) = 1
expr_layer (layer.Load t d) = 1 + d
expr_layer (layer.Procedure p) = 1
expr_layer (layer.Plus t e) = 1 + e
expr_layer (layer.Negate e) = 1 + e
expr_layer (layer.Chain a links) = 1 + a + total links
expr_layer (layer.Compare op a b) = 1 + a + b
expr_layer (layer.Not e) = 1 + e
expr_layer (layer.Include op a b) = 1 + a + b
expr_layer (layer.In a b) = 1 + a + b
expr_layer (layer.Abs t e) = 1 + e
expr_layer (layer.Cap e) = 1 + e
expr_layer (layer.Chr e) = 1 + e
expr_layer (layer.Odd e) = 1 + e
expr_layer (layer.Ord e) = 1 + e
expr_layer (layer.Val t e) = 1 + e
expr_layer (layer.High slot) = 1
expr_layer (layer.Call t c) = 1 + c

unfoldable pub size_typed : TypedExpr → ℕ
size_typed =
    fold-TypedExpr ℕ ℕ ℕ ℕ ℕ ℕ argument_layer call_layer component_layer link_layer
    expr_layer place_layer

unfoldable pub size_place : Place → ℕ
size_place =
    fold-Place ℕ ℕ ℕ ℕ ℕ ℕ argument_layer call_layer component_layer link_layer
    expr_layer place_layer

unfoldable pub size_component : Component → ℕ
size_component =
    fold-Component ℕ ℕ ℕ ℕ ℕ ℕ argument_layer call_layer component_layer link_layer
    expr_layer place_layer

unfoldable pub size_link : Link → ℕ
size_link =
    fold-Link ℕ ℕ ℕ ℕ ℕ ℕ argument_layer call_layer component_layer link_layer
    expr_layer place_layer

unfoldable pub size_call : Call → ℕ
size_call =
    fold-Call ℕ ℕ ℕ ℕ ℕ ℕ argument_layer call_layer component_layer link_layer
    expr_layer place_layer

unfoldable pub size_passed : Argument → ℕ
size_passed =
    fold-Argument ℕ ℕ ℕ ℕ ℕ ℕ argument_layer call_layer component_layer link_layer
    expr_layer place_layer

-- ---- statements: a change takes two locals, the code of a CASE may have a table, and the code
-- of a FOR has the place of its variable five times

abbrev pub step_layer : TypedStmt-F ℕ ℕ → ℕ
step_layer (step.Assign d t e) = 1 + size_place d + size_typed e
step_layer (step.Copy to from t) = 1 + size_place to + size_place from
step_layer (step.CopyText d t text) = 1 + size_place d
step_layer (step.Call c) = size_call c
step_layer (step.Put e) = 1 + size_typed e
step_layer (step.Change o d t e) = 2 + size_place d + size_typed e
step_layer (step.Membership o d e) = 2 + size_place d + size_typed e
step_layer step.Halt = 1
step_layer (step.If e body others) = 1 + size_typed e + total body + all_if_there others
step_layer (step.Case e arms others) = 6 + size_typed e + total arms + all_if_there others
step_layer (step.While e body) = 1 + size_typed e + total body
step_layer (step.Repeat body e) = 1 + total body + size_typed e
step_layer (step.Loop body) = 1 + total body
step_layer step.Exit = 1
step_layer step.Return = 1
step_layer (step.Give t e) = 1 + size_typed e
step_layer (step.For d t start limit by body) =
    1 + 5 * size_place d + size_typed start + size_typed limit + total body
step_layer (step.With d body) = 1 + size_place d + total body

abbrev pub arm_layer : TypedArm-F ℕ ℕ → ℕ
arm_layer x = 1 + length x.labels + total x.body

unfoldable pub size_step : TypedStmt → ℕ
size_step = fold-TypedStmt ℕ ℕ step_layer arm_layer

unfoldable pub size_arm : TypedArm → ℕ
size_arm = fold-TypedArm ℕ ℕ step_layer arm_layer

abbrev pub size_body : List TypedStmt → ℕ
size_body xs = sum_of size_step xs

-- ---- modules

abbrev pub size_routine : Routine → ℕ
size_routine r = size_body r.body

-- the bodies of all procedures, and the body of the module
abbrev pub size_bodies : TypedModule → ℕ
size_bodies m = sum_of size_routine m.procedures + sum_of size_routine m.locals + size_body m.body
