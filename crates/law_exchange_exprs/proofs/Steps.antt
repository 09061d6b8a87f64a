-- What becomes of each statement.
use Rattle.std.proofs.Common.{◌≡◌, ℕ, ℤ, List, Option, Some, None, map, option_map, ap, ◌∙◌}
use Rattle.typed_tree.specs.declared.types.TypeNo.{TypeNo}
use Rattle.typed_tree.specs.declared.computed.TypedExpr.{TypedExpr}
use Rattle.typed_tree.specs.declared.computed.Place.{Place}
use Rattle.typed_tree.specs.declared.computed.Call.{Call}
use Rattle.typed_tree.specs.declared.statement.Change.{Change}
use Rattle.typed_tree.specs.declared.statement.Membership.{Membership}
use Rattle.typed_tree.specs.declared.statement.TypedStmt.{TypedStmt, TypedStmt-F, out-TypedStmt, map-TypedStmt, fold_out-TypedStmt}
use Rattle.typed_tree.specs.declared.statement.TypedStmt.TheOpen as layer
use Rattle.typed_tree.specs.declared.statement.TypedStmt.TheVariants as step
use Rattle.typed_tree.specs.declared.statement.TypedArm.{TypedArm, fold_out-TypedArm}
use Rattle.def_exchange.specs.Moved.{Exchange, moved_type}
use Rattle.law_exchange_types.specs.Trees.{moved_call, moved_expr, moved_place}
use Rattle.law_exchange_exprs.specs.Steps.{stmt_layer, arm_layer, moved_stmt, moved_arm}

module _ (z : Exchange) where
  abbrev opened : TypedStmt-F TypedStmt TypedArm → TypedStmt-F TypedStmt TypedArm
  opened y = map-TypedStmt TypedStmt TypedArm TypedStmt TypedArm (moved_stmt z) (moved_arm z) y

  at_stmt : (e : TypedStmt) (y : TypedStmt-F TypedStmt TypedArm) → out-TypedStmt e ≡ y
      → moved_stmt z e ≡ stmt_layer z (opened y)
  unfolding moved_stmt moved_arm
  at_stmt e y h =
      fold_out-TypedStmt TypedStmt TypedArm (stmt_layer z) (arm_layer z) e
      ∙ ap (λ (u : TypedStmt-F TypedStmt TypedArm). stmt_layer z (opened u)) h

  pub stmt_Assign : (d : Place) (t : TypeNo) (e : TypedExpr)
      → moved_stmt z (step.Assign d t e)
      ≡ step.Assign (moved_place z d) (moved_type z t) (moved_expr z e)
  stmt_Assign d t e = at_stmt (step.Assign d t e) (layer.Assign d t e) (step.outs-Assign d t e)
      ∙ step.rolls-Assign (moved_place z d) (moved_type z t) (moved_expr z e)

  pub stmt_Copy : (to from : Place) (t : TypeNo)
      → moved_stmt z (step.Copy to from t)
      ≡ step.Copy (moved_place z to) (moved_place z from) (moved_type z t)
  stmt_Copy to from t = at_stmt (step.Copy to from t) (layer.Copy to from t) (step.outs-Copy to from t)
      ∙ step.rolls-Copy (moved_place z to) (moved_place z from) (moved_type z t)

  pub stmt_CopyText : (d : Place) (t : TypeNo) (text : List ℕ)
      → moved_stmt z (step.CopyText d t text)
      ≡ step.CopyText (moved_place z d) (moved_type z t) text
  stmt_CopyText d t text = at_stmt (step.CopyText d t text) (layer.CopyText d t text) (step.outs-CopyText d t text)
      ∙ step.rolls-CopyText (moved_place z d) (moved_type z t) text

  pub stmt_Call : (c : Call) → moved_stmt z (step.Call c) ≡ step.Call (moved_call z c)
  stmt_Call c = at_stmt (step.Call c) (layer.Call c) (step.outs-Call c) ∙ step.rolls-Call (moved_call z c)

  pub stmt_Put : (e : TypedExpr) → moved_stmt z (step.Put e) ≡ step.Put (moved_expr z e)
  stmt_Put e = at_stmt (step.Put e) (layer.Put e) (step.outs-Put e) ∙ step.rolls-Put (moved_expr z e)

  pub stmt_Change : (o : Change) (d : Place) (t : TypeNo) (e : TypedExpr)
      → moved_stmt z (step.Change o d t e)
      ≡ step.Change o (moved_place z d) (moved_type z t) (moved_expr z e)
  stmt_Change o d t e = at_stmt (step.Change o d t e) (layer.Change o d t e) (step.outs-Change o d t e)
      ∙ step.rolls-Change o (moved_place z d) (moved_type z t) (moved_expr z e)

  pub stmt_Membership : (o : Membership) (d : Place) (e : TypedExpr)
      → moved_stmt z (step.Membership o d e)
      ≡ step.Membership o (moved_place z d) (moved_expr z e)
  stmt_Membership o d e = at_stmt (step.Membership o d e) (layer.Membership o d e) (step.outs-Membership o d e)
      ∙ step.rolls-Membership o (moved_place z d) (moved_expr z e)

  pub stmt_Halt : moved_stmt z step.Halt ≡ step.Halt
  stmt_Halt = at_stmt step.Halt layer.Halt step.outs-Halt ∙ step.rolls-Halt

  pub stmt_If : (e : TypedExpr) (body : List TypedStmt) (others : Option (List TypedStmt))
      → moved_stmt z (step.If e body others)
      ≡ step.If (moved_expr z e) (map (moved_stmt z) body) (option_map (map (moved_stmt z)) others)
  stmt_If e body None = at_stmt (step.If e body None) (layer.If e body None) (step.outs-If e body None)
      ∙ step.rolls-If (moved_expr z e) (map (moved_stmt z) body) None
  stmt_If e body (Some others) =
      at_stmt (step.If e body (Some others)) (layer.If e body (Some others)) (step.outs-If e body (Some others))
      ∙ step.rolls-If (moved_expr z e) (map (moved_stmt z) body) (Some (map (moved_stmt z) others))

  pub stmt_Case : (e : TypedExpr) (arms : List TypedArm) (others : Option (List TypedStmt))
      → moved_stmt z (step.Case e arms others)
      ≡ step.Case (moved_expr z e) (map (moved_arm z) arms) (option_map (map (moved_stmt z)) others)
  stmt_Case e arms None = at_stmt (step.Case e arms None) (layer.Case e arms None) (step.outs-Case e arms None)
      ∙ step.rolls-Case (moved_expr z e) (map (moved_arm z) arms) None
  stmt_Case e arms (Some others) =
      at_stmt (step.Case e arms (Some others)) (layer.Case e arms (Some others)) (step.outs-Case e arms (Some others))
      ∙ step.rolls-Case (moved_expr z e) (map (moved_arm z) arms) (Some (map (moved_stmt z) others))

  pub stmt_While : (e : TypedExpr) (body : List TypedStmt)
      → moved_stmt z (step.While e body)
      ≡ step.While (moved_expr z e) (map (moved_stmt z) body)
  stmt_While e body = at_stmt (step.While e body) (layer.While e body) (step.outs-While e body)
      ∙ step.rolls-While (moved_expr z e) (map (moved_stmt z) body)

  pub stmt_Repeat : (body : List TypedStmt) (e : TypedExpr)
      → moved_stmt z (step.Repeat body e)
      ≡ step.Repeat (map (moved_stmt z) body) (moved_expr z e)
  stmt_Repeat body e = at_stmt (step.Repeat body e) (layer.Repeat body e) (step.outs-Repeat body e)
      ∙ step.rolls-Repeat (map (moved_stmt z) body) (moved_expr z e)

  pub stmt_Loop : (body : List TypedStmt) → moved_stmt z (step.Loop body) ≡ step.Loop (map (moved_stmt z) body)
  stmt_Loop body = at_stmt (step.Loop body) (layer.Loop body) (step.outs-Loop body)
      ∙ step.rolls-Loop (map (moved_stmt z) body)

  pub stmt_Exit : moved_stmt z step.Exit ≡ step.Exit
  stmt_Exit = at_stmt step.Exit layer.Exit step.outs-Exit ∙ step.rolls-Exit

  pub stmt_Return : moved_stmt z step.Return ≡ step.Return
  stmt_Return = at_stmt step.Return layer.Return step.outs-Return ∙ step.rolls-Return

  pub stmt_Give : (t : TypeNo) (e : TypedExpr)
      → moved_stmt z (step.Give t e)
      ≡ step.Give (moved_type z t) (moved_expr z e)
  stmt_Give t e = at_stmt (step.Give t e) (layer.Give t e) (step.outs-Give t e)
      ∙ step.rolls-Give (moved_type z t) (moved_expr z e)

  pub stmt_For : (d : Place) (t : TypeNo) (start limit : TypedExpr) (by : ℤ) (body : List TypedStmt)
      → moved_stmt z (step.For d t start limit by body)
      ≡ step.For (moved_place z d) (moved_type z t) (moved_expr z start) (moved_expr z limit) by
      (map (moved_stmt z) body)
  stmt_For d t start limit by body =
      at_stmt (step.For d t start limit by body) (layer.For d t start limit by body)
      (step.outs-For d t start limit by body)
      ∙ step.rolls-For (moved_place z d) (moved_type z t) (moved_expr z start) (moved_expr z limit) by
      (map (moved_stmt z) body)

  pub stmt_With : (d : Place) (body : List TypedStmt)
      → moved_stmt z (step.With d body)
      ≡ step.With (moved_place z d) (map (moved_stmt z) body)
  stmt_With d body = at_stmt (step.With d body) (layer.With d body) (step.outs-With d body)
      ∙ step.rolls-With (moved_place z d) (map (moved_stmt z) body)

  pub arm_is : (a : TypedArm) → moved_arm z a ≡ record { labels = a.labels; body = map (moved_stmt z) a.body }
  unfolding moved_stmt moved_arm
  arm_is a = fold_out-TypedArm TypedStmt TypedArm (stmt_layer z) (arm_layer z) a
