-- Other numbers of modules in typed trees and typed modules.
use Rattle.std.specs.Prelude.{map}
use Rattle.typed_tree.specs.declared.computed.Argument.{Argument, Argument-F, roll-Argument, fold-Argument}
use Rattle.typed_tree.specs.declared.computed.Argument.TheOpen as layer
use Rattle.typed_tree.specs.declared.computed.Call.{Call, Call-F, roll-Call, fold-Call}
use Rattle.typed_tree.specs.declared.computed.Component.{Component, Component-F, roll-Component, fold-Component}
use Rattle.typed_tree.specs.declared.computed.Link.{Link, Link-F, roll-Link, fold-Link}
use Rattle.typed_tree.specs.declared.computed.LocalProcedure.{LocalProcedure}
use Rattle.typed_tree.specs.declared.computed.Place.{Place, Place-F, roll-Place, fold-Place}
use Rattle.typed_tree.specs.declared.computed.Root.{Root}
use Rattle.typed_tree.specs.declared.computed.Root.TheVariants as root
use Rattle.typed_tree.specs.declared.computed.TypedExpr.{TypedExpr, TypedExpr-F, roll-TypedExpr, fold-TypedExpr}
use Rattle.typed_tree.specs.declared.statement.TypedArm.{TypedArm, TypedArm-F, roll-TypedArm, fold-TypedArm}
use Rattle.typed_tree.specs.declared.statement.TypedStmt.{TypedStmt, TypedStmt-F, roll-TypedStmt, fold-TypedStmt}
use Rattle.typed_tree.specs.declared.statement.TypedStmt.TheOpen as step
use Rattle.typed_tree.specs.declared.typed_module.Imported.{Imported}
use Rattle.typed_tree.specs.declared.typed_module.Routine.{Routine}
use Rattle.typed_tree.specs.declared.typed_module.TypedModule.{TypedModule}
use Rattle.def_exchange.specs.Moved.{Exchange, moved_type, moved_types, moved_variable, moved_procedure}

module _ (x : Exchange) where
  -- ---- what stands in trees

  abbrev pub moved_root : Root → Root
  moved_root (root.Global v) = root.Global (moved_variable x v)
  moved_root (root.Local s) = root.Local s
  moved_root (root.Alias s) = root.Alias s
  moved_root (root.Open s) = root.Open s
  moved_root (root.With n) = root.With n

  abbrev pub moved_called : LocalProcedure → LocalProcedure
  moved_called p = record { up = p.up; number = p.number; heading = moved_type x p.heading }

  -- ---- a layer of a tree, whatever stands in it

  abbrev pub argument_moved : {A C K L E P : Type 0} → Argument-F A C K L E P
      → Argument-F A C K L E P
  argument_moved (layer.Value t e) = layer.Value (moved_type x t) e
  argument_moved (layer.Place d) = layer.Place d
  argument_moved (layer.Array t d) = layer.Array (moved_type x t) d
  argument_moved (layer.Open s) = layer.Open s
  argument_moved (layer.Text text) = layer.Text text

  abbrev pub call_moved : {A C K L E P : Type 0} → Call-F A C K L E P → Call-F A C K L E P
  call_moved (layer.Module p args) = layer.Module (moved_procedure x p) args
  call_moved (layer.Nested p args) = layer.Nested (moved_called p) args
  call_moved (layer.Variable t d args) = layer.Variable (moved_type x t) d args

  abbrev pub component_moved : {A C K L E P : Type 0} → Component-F A C K L E P
      → Component-F A C K L E P
  component_moved (layer.Field t k) = layer.Field (moved_type x t) k
  component_moved (layer.Element t i) = layer.Element (moved_type x t) i
  component_moved (layer.OpenElement s t i) = layer.OpenElement s (moved_type x t) i

  abbrev pub link_moved : {A C K L E P : Type 0} → Link-F A C K L E P → Link-F A C K L E P
  link_moved (layer.Arithmetic o t b) = layer.Arithmetic o (moved_type x t) b
  link_moved (layer.And b) = layer.And b
  link_moved (layer.Or b) = layer.Or b
  link_moved (layer.Combine o b) = layer.Combine o b

  abbrev pub expr_moved : {A C K L E P : Type 0} → TypedExpr-F A C K L E P → TypedExpr-F A C K L E P
  expr_moved (layer.Constant t n) = layer.Constant (moved_type x t) n
  expr_moved (layer.Load t d) = layer.Load (moved_type x t) d
  expr_moved (layer.Procedure p) = layer.Procedure (moved_procedure x p)
  expr_moved (layer.Plus t e) = layer.Plus (moved_type x t) e
  expr_moved (layer.Negate e) = layer.Negate e
  expr_moved (layer.Chain e links) = layer.Chain e links
  expr_moved (layer.Compare o a b) = layer.Compare o a b
  expr_moved (layer.Not e) = layer.Not e
  expr_moved (layer.Include o a b) = layer.Include o a b
  expr_moved (layer.In a b) = layer.In a b
  expr_moved (layer.Abs t e) = layer.Abs (moved_type x t) e
  expr_moved (layer.Cap e) = layer.Cap e
  expr_moved (layer.Chr e) = layer.Chr e
  expr_moved (layer.Odd e) = layer.Odd e
  expr_moved (layer.Ord e) = layer.Ord e
  expr_moved (layer.Val t e) = layer.Val (moved_type x t) e
  expr_moved (layer.High s) = layer.High s
  expr_moved (layer.Call t c) = layer.Call (moved_type x t) c

  abbrev pub place_moved : {A C K L E P : Type 0} → Place-F A C K L E P → Place-F A C K L E P
  place_moved d = record { root = moved_root d.root; components = d.components }

  -- ---- expressions and variables

  unfoldable pub moved_argument : Argument → Argument
  moved_argument =
      fold-Argument Argument Call Component Link TypedExpr Place
      (λ y. roll-Argument (argument_moved y)) (λ y. roll-Call (call_moved y))
      (λ y. roll-Component (component_moved y)) (λ y. roll-Link (link_moved y))
      (λ y. roll-TypedExpr (expr_moved y)) (λ y. roll-Place (place_moved y))

  unfoldable pub moved_call : Call → Call
  moved_call =
      fold-Call Argument Call Component Link TypedExpr Place (λ y. roll-Argument (argument_moved y))
      (λ y. roll-Call (call_moved y)) (λ y. roll-Component (component_moved y))
      (λ y. roll-Link (link_moved y)) (λ y. roll-TypedExpr (expr_moved y))
      (λ y. roll-Place (place_moved y))

  unfoldable pub moved_component : Component → Component
  moved_component =
      fold-Component Argument Call Component Link TypedExpr Place
      (λ y. roll-Argument (argument_moved y)) (λ y. roll-Call (call_moved y))
      (λ y. roll-Component (component_moved y)) (λ y. roll-Link (link_moved y))
      (λ y. roll-TypedExpr (expr_moved y)) (λ y. roll-Place (place_moved y))

  unfoldable pub moved_link : Link → Link
  moved_link =
      fold-Link Argument Call Component Link TypedExpr Place (λ y. roll-Argument (argument_moved y))
      (λ y. roll-Call (call_moved y)) (λ y. roll-Component (component_moved y))
      (λ y. roll-Link (link_moved y)) (λ y. roll-TypedExpr (expr_moved y))
      (λ y. roll-Place (place_moved y))

  unfoldable pub moved_expr : TypedExpr → TypedExpr
  moved_expr =
      fold-TypedExpr Argument Call Component Link TypedExpr Place
      (λ y. roll-Argument (argument_moved y)) (λ y. roll-Call (call_moved y))
      (λ y. roll-Component (component_moved y)) (λ y. roll-Link (link_moved y))
      (λ y. roll-TypedExpr (expr_moved y)) (λ y. roll-Place (place_moved y))

  unfoldable pub moved_place : Place → Place
  moved_place =
      fold-Place Argument Call Component Link TypedExpr Place
      (λ y. roll-Argument (argument_moved y)) (λ y. roll-Call (call_moved y))
      (λ y. roll-Component (component_moved y)) (λ y. roll-Link (link_moved y))
      (λ y. roll-TypedExpr (expr_moved y)) (λ y. roll-Place (place_moved y))

  -- ---- statements

  abbrev pub stmt_moved : {S R : Type 0} → TypedStmt-F S R → TypedStmt-F S R
  stmt_moved (step.Assign d t e) = step.Assign (moved_place d) (moved_type x t) (moved_expr e)
  stmt_moved (step.Copy to from t) = step.Copy (moved_place to) (moved_place from) (moved_type x t)
  stmt_moved (step.CopyText d t text) = step.CopyText (moved_place d) (moved_type x t) text
  stmt_moved (step.Call c) = step.Call (moved_call c)
  stmt_moved (step.Put e) = step.Put (moved_expr e)
  stmt_moved (step.Change o d t e) = step.Change o (moved_place d) (moved_type x t) (moved_expr e)
  stmt_moved (step.Membership o d e) = step.Membership o (moved_place d) (moved_expr e)
  stmt_moved step.Halt = step.Halt
  stmt_moved (step.If e body others) = step.If (moved_expr e) body others
  stmt_moved (step.Case e arms others) = step.Case (moved_expr e) arms others
  stmt_moved (step.While e body) = step.While (moved_expr e) body
  stmt_moved (step.Repeat body e) = step.Repeat body (moved_expr e)
  stmt_moved (step.Loop body) = step.Loop body
  stmt_moved step.Exit = step.Exit
  stmt_moved step.Return = step.Return
  stmt_moved (step.Give t e) = step.Give (moved_type x t) (moved_expr e)
  stmt_moved (step.For d t start limit by body) =
      step.For (moved_place d) (moved_type x t) (moved_expr start) (moved_expr limit) by body
  stmt_moved (step.With d body) = step.With (moved_place d) body

  abbrev pub arm_moved : {S R : Type 0} → TypedArm-F S R → TypedArm-F S R
  arm_moved a = record { labels = a.labels; body = a.body }

  unfoldable pub moved_stmt : TypedStmt → TypedStmt
  moved_stmt =
      fold-TypedStmt TypedStmt TypedArm (λ y. roll-TypedStmt (stmt_moved y))
      (λ y. roll-TypedArm (arm_moved y))

  unfoldable pub moved_arm : TypedArm → TypedArm
  moved_arm =
      fold-TypedArm TypedStmt TypedArm (λ y. roll-TypedStmt (stmt_moved y))
      (λ y. roll-TypedArm (arm_moved y))

  -- ---- modules

  abbrev pub moved_routine : Routine → Routine
  moved_routine r = record {
    pos = r.pos;
    heading = moved_type x r.heading;
    level = r.level;
    around = r.around;
    variables = map (moved_type x) r.variables;
    body = map moved_stmt r.body;
  }

  abbrev pub moved_imported : Imported → Imported
  moved_imported i = record {
    name = i.name;
    number = x.there i.number;
    variables = map (moved_type x) i.variables;
  }

  abbrev pub moved_module : TypedModule → TypedModule
  moved_module m = record {
    name = m.name;
    pos = m.pos;
    imports = map moved_imported m.imports;
    types = moved_types x m.types;
    variables = map (moved_type x) m.variables;
    procedures = map moved_routine m.procedures;
    locals = map moved_routine m.locals;
    order = m.order;
    body = map moved_stmt m.body;
  }
