-- What statements of bodies mean: each is a typed statement, or breaks rules.
use Rattle.std.specs.Prelude.{List, [], map, Option, Some, None, Result, Ok}
use Rattle.std.specs.List.{fold}
use Rattle.m2_tree.specs.declared.expr.Expr.{Expr}
use Rattle.m2_tree.specs.declared.expr.Designator.{Designator}
use Rattle.m2_tree.specs.declared.stmt.Rest.{Rest, Rest-F, fold-Rest}
use Rattle.m2_tree.specs.declared.stmt.Rest.TheOpen as layer
use Rattle.m2_tree.specs.declared.stmt.Stmt.{Stmt, Stmt-F, fold-Stmt}
use Rattle.m2_tree.specs.declared.stmt.Arm.{Arm, Arm-F, fold-Arm}
use Rattle.typed_tree.specs.declared.types.TypeNo.{TypeNo}
use Rattle.typed_tree.specs.declared.computed.TypedExpr.{TypedExpr}
use Rattle.typed_tree.specs.declared.statement.TypedStmt.{TypedStmt}
use Rattle.typed_tree.specs.declared.statement.TypedArm.{TypedArm}
use Rattle.check_scope.specs.Elaborated.{Gathers, ahead}
use Rattle.check_scope.specs.declared.scope.Scope.{Scope}
use Rattle.check_expr.specs.Meanings.{Meant, meanings_of, head}
use Rattle.check_expr.specs.Effects.{call_statement}
use Rattle.check_stmt_parts.specs.declared.around.Around.{Around}
use Rattle.check_stmt_parts.specs.Lists.{with_next, standing, if_statement, chosen_else, base_in, case_statement, arm_of, repeated_while, repeated_until, loop_statement, within, reported_in}
use Rattle.check_stmt_parts.specs.Simple.{meant_if, in_loop, exit_statement, return_statement, condition, assignment, or_none, case_selector, record_of, opened_type, into_record, opened_if}
use Rattle.check_stmt_parts.specs.Ranges.{Range}
use Rattle.check_stmt_parts.specs.Labels.{labels_in}
use Rattle.check_stmt_parts.specs.Control.{course_of, repeated_for}

-- a statement, in a scope and at a place of a body
abbrev pub Elaborates : Type 0 → Type 0
Elaborates T = Scope T → Around T → Result TypedStmt T

-- what follows the first part of an IF
abbrev pub ElaboratesRest : Type 0 → Type 0
ElaboratesRest T = Scope T → Around T → Result (Option (List TypedStmt)) T

-- an arm, with the base type of the selector, if it has a meaning, and the values of the labels
-- before it
abbrev pub ElaboratesArm : Type 0 → Type 0
ElaboratesArm T =
    Scope T → Around T → Option TypeNo → List Range → List Range × Result TypedArm T

-- the values of the labels so far, and the arms
abbrev pub Arms : Type 0 → Type 0
Arms T = List Range × Result (List TypedArm) T

module _ (g : Gathers) where
  abbrev pub args_meant : Option (List Expr) → List (Meant g.Reported)
  args_meant args = map (meanings_of g) (or_none args)

  -- ---- one after another

  abbrev pub with_stmt : Scope g.Reported → Around g.Reported → Result (List TypedStmt) g.Reported
      → Elaborates g.Reported → Result (List TypedStmt) g.Reported
  with_stmt s w so x = with_next g so (x s w)

  abbrev pub all_of : Scope g.Reported → Around g.Reported → List (Elaborates g.Reported)
      → Result (List TypedStmt) g.Reported
  all_of s w xs = fold (with_stmt s w) (Ok []) xs

  abbrev pub all_if : Scope g.Reported → Around g.Reported → Option (List (Elaborates g.Reported))
      → Result (Option (List TypedStmt)) g.Reported
  all_if s w None = Ok None
  all_if s w (Some xs) = standing (all_of s w xs)

  abbrev pub with_arm : Scope g.Reported → Around g.Reported → Option TypeNo → Arms g.Reported
      → ElaboratesArm g.Reported → Arms g.Reported
  with_arm s w base st a = let r = a s w base st.0 in (r.0, with_next g st.1 r.1)

  -- no two labels of the arms have a value in common
  abbrev pub arms_of : Scope g.Reported → Around g.Reported → Option TypeNo
      → List (ElaboratesArm g.Reported) → Result (List TypedArm) g.Reported
  arms_of s w base arms = (fold (with_arm s w base) ([], Ok []) arms).1

  -- ---- the layers

  -- the arms are looked at, also if the selector has no meaning
  abbrev pub case_of : Scope g.Reported → Around g.Reported → Result (TypeNo × TypedExpr) g.Reported
      → List (ElaboratesArm g.Reported) → Option (List (Elaborates g.Reported))
      → Result TypedStmt g.Reported
  case_of s w selector arms otherwise =
      case_statement g selector (arms_of s w (base_in selector) arms) (all_if s w otherwise)

  -- the statements are looked at, also if there is no record
  abbrev pub with_of : Scope g.Reported → Around g.Reported → Designator
      → List (Elaborates g.Reported) → Result TypedStmt g.Reported
  with_of s w d body =
      ahead g (record_of g s (head g d))
      (reported_in (all_of (opened_if s (opened_type g s d)) w body)) (λ r.
      within r.1 (all_of (into_record s r.0) w body))

  abbrev pub stmt_layer :
      Stmt-F (ElaboratesRest g.Reported) (Elaborates g.Reported) (ElaboratesArm g.Reported)
      → Elaborates g.Reported
  stmt_layer (layer.Assign d e) s w = assignment g s (head g d) (meanings_of g e)
  stmt_layer (layer.Call d args) s w = call_statement g s (head g d) (args_meant args)
  stmt_layer (layer.If c body rest) s w =
      if_statement g (condition g s (meanings_of g c)) (all_of s w body) (rest s w)
  stmt_layer (layer.Case e arms otherwise) s w =
      case_of s w (case_selector g s (meanings_of g e)) arms otherwise
  stmt_layer (layer.While c body) s w =
      repeated_while g (condition g s (meanings_of g c)) (all_of s w body)
  stmt_layer (layer.Repeat body c) s w =
      repeated_until g (all_of s w body) (condition g s (meanings_of g c))
  stmt_layer (layer.Loop body) s w = loop_statement (all_of s (in_loop w) body)
  stmt_layer (layer.Exit at) s w = exit_statement g at w
  stmt_layer (layer.Return at e) s w = return_statement g s at w.gives (meant_if g e)
  stmt_layer (layer.For name start limit by body) s w =
      repeated_for g
      (course_of g s name (meanings_of g start) (meanings_of g limit) (meant_if g by))
      (all_of s w body)
  stmt_layer (layer.With d body) s w = with_of s w d body

  -- an ELSIF is an IF in the ELSE
  abbrev pub rest_layer :
      Rest-F (ElaboratesRest g.Reported) (Elaborates g.Reported) (ElaboratesArm g.Reported)
      → ElaboratesRest g.Reported
  rest_layer (layer.Elsif c body rest) s w =
      chosen_else (if_statement g (condition g s (meanings_of g c)) (all_of s w body) (rest s w))
  rest_layer (layer.Else body) s w = all_if s w body

  abbrev pub arm_layer :
      Arm-F (ElaboratesRest g.Reported) (Elaborates g.Reported) (ElaboratesArm g.Reported)
      → ElaboratesArm g.Reported
  arm_layer a s w base ranges =
      let labels = labels_in g s base ranges a.labels in
      (labels.0, arm_of g labels.1 (all_of s w a.body))

  -- ---- what each means

  unfoldable pub rest : Rest → ElaboratesRest g.Reported
  rest =
      fold-Rest (ElaboratesRest g.Reported) (Elaborates g.Reported) (ElaboratesArm g.Reported)
      rest_layer stmt_layer arm_layer

  unfoldable pub stmt : Stmt → Elaborates g.Reported
  stmt =
      fold-Stmt (ElaboratesRest g.Reported) (Elaborates g.Reported) (ElaboratesArm g.Reported)
      rest_layer stmt_layer arm_layer

  unfoldable pub arm : Arm → ElaboratesArm g.Reported
  arm =
      fold-Arm (ElaboratesRest g.Reported) (Elaborates g.Reported) (ElaboratesArm g.Reported)
      rest_layer stmt_layer arm_layer

  abbrev pub with_written : Scope g.Reported → Around g.Reported
      → Result (List TypedStmt) g.Reported → Stmt → Result (List TypedStmt) g.Reported
  with_written s w so x = with_next g so (stmt x s w)

  abbrev pub statements : Scope g.Reported → Around g.Reported → List Stmt
      → Result (List TypedStmt) g.Reported
  statements s w xs = fold (with_written s w) (Ok []) xs

  abbrev pub with_written_arm : Scope g.Reported → Around g.Reported → Option TypeNo
      → Arms g.Reported → Arm → Arms g.Reported
  with_written_arm s w base st x = let r = arm x s w base st.0 in (r.0, with_next g st.1 r.1)

  abbrev pub arms : Scope g.Reported → Around g.Reported → Option TypeNo → List Arm
      → Result (List TypedArm) g.Reported
  arms s w base xs = (fold (with_written_arm s w base) ([], Ok []) xs).1
