-- What each statement asks for: what its parts ask for, one behind the other.
use Rattle.std.proofs.Common.{◌≡◌, ℕ, List, [], ◌∷◌, ◌++◌, map, Option, Some, None, refl, sym, ap, ◌∙◌}
use Rattle.std.specs.Prelude.{ℤ}
use Rattle.std.specs.List.{flat_map}
use Rattle.std.proofs.lemmas.List.{append-nil}
use Rattle.typed_tree.specs.declared.computed.Call.{Call}
use Rattle.typed_tree.specs.declared.computed.Place.{Place}
use Rattle.typed_tree.specs.declared.computed.TypedExpr.{TypedExpr}
use Rattle.typed_tree.specs.declared.statement.Change.{Change}
use Rattle.typed_tree.specs.declared.statement.Membership.{Membership}
use Rattle.typed_tree.specs.declared.statement.TypedArm.{TypedArm, TypedArm-F, out-TypedArm, map-TypedArm, fold_out-TypedArm}
use Rattle.typed_tree.specs.declared.statement.TypedStmt.{TypedStmt, TypedStmt-F, out-TypedStmt, map-TypedStmt, fold_out-TypedStmt}
use Rattle.typed_tree.specs.declared.statement.TypedStmt.TheOpen as step
use Rattle.typed_tree.specs.declared.statement.TypedStmt.TheVariants as stmt
use Rattle.typed_tree.specs.declared.typed_module.TypedModule.{TypedModule}
use Rattle.typed_tree.specs.declared.types.TypeNo.{TypeNo}
use Rattle.layout_storage.specs.Texts.{Texts, texts_in, texts_armed, body_texts}
use Rattle.layout_storage.specs.Texts as texts
use Rattle.def_scheme.specs.Signatures.{Signatures, of_step}
use Rattle.def_scheme.specs.Signatures as signed
use Rattle.law_programs.specs.Wanted.{Wanted, wanted_of, wanted_at, wanted_called}
use Rattle.law_programs.proofs.Wants.{nothing, beside, made, made_same}
use Rattle.law_programs.specs.Asked.{of_arm, wanted_in, wanted_armed, wanted_by}

module _ (m : TypedModule) where
  stmt_texts : (e : TypedStmt) (y : TypedStmt-F TypedStmt TypedArm) → out-TypedStmt e ≡ y
      → texts_in e ≡ texts.step_texts (map-TypedStmt TypedStmt TypedArm Texts Texts texts_in texts_armed y)
  unfolding texts_in texts_armed of_step of_arm
  stmt_texts e y h = fold_out-TypedStmt Texts Texts texts.step_texts texts.arm_texts e
      ∙ ap (λ (y : TypedStmt-F TypedStmt TypedArm). texts.step_texts
      (map-TypedStmt TypedStmt TypedArm Texts Texts texts_in texts_armed y)) h

  stmt_signatures : (e : TypedStmt) (y : TypedStmt-F TypedStmt TypedArm) → out-TypedStmt e ≡ y
      → of_step m e ≡ signed.step_layer m (map-TypedStmt TypedStmt TypedArm Signatures Signatures (of_step m) (of_arm m)
      y)
  unfolding texts_in texts_armed of_step of_arm
  stmt_signatures e y h = fold_out-TypedStmt Signatures Signatures (signed.step_layer m) (signed.arm_layer m) e
      ∙ ap (λ (y : TypedStmt-F TypedStmt TypedArm). signed.step_layer m
      (map-TypedStmt TypedStmt TypedArm Signatures Signatures (of_step m) (of_arm m) y)) h

  stmt_wants : (e : TypedStmt) (y : TypedStmt-F TypedStmt TypedArm) → out-TypedStmt e ≡ y
      → wanted_in m e ≡ made (texts.step_texts (map-TypedStmt TypedStmt TypedArm Texts Texts texts_in texts_armed y))
      (signed.step_layer m (map-TypedStmt TypedStmt TypedArm Signatures Signatures (of_step m) (of_arm m) y))
  stmt_wants e y h = made_same (texts_in e) _ (of_step m e) _ (stmt_texts e y h) (stmt_signatures e y h)

  arm_texts : (e : TypedArm) (y : TypedArm-F TypedStmt TypedArm) → out-TypedArm e ≡ y
      → texts_armed e ≡ texts.arm_texts (map-TypedArm TypedStmt TypedArm Texts Texts texts_in texts_armed y)
  unfolding texts_in texts_armed of_step of_arm
  arm_texts e y h = fold_out-TypedArm Texts Texts texts.step_texts texts.arm_texts e
      ∙ ap (λ (y : TypedArm-F TypedStmt TypedArm). texts.arm_texts
      (map-TypedArm TypedStmt TypedArm Texts Texts texts_in texts_armed y)) h

  arm_signatures : (e : TypedArm) (y : TypedArm-F TypedStmt TypedArm) → out-TypedArm e ≡ y
      → of_arm m e ≡ signed.arm_layer m (map-TypedArm TypedStmt TypedArm Signatures Signatures (of_step m) (of_arm m) y)
  unfolding texts_in texts_armed of_step of_arm
  arm_signatures e y h = fold_out-TypedArm Signatures Signatures (signed.step_layer m) (signed.arm_layer m) e
      ∙ ap (λ (y : TypedArm-F TypedStmt TypedArm). signed.arm_layer m
      (map-TypedArm TypedStmt TypedArm Signatures Signatures (of_step m) (of_arm m) y)) h

  arm_wants : (e : TypedArm) (y : TypedArm-F TypedStmt TypedArm) → out-TypedArm e ≡ y
      → wanted_armed m e ≡ made (texts.arm_texts (map-TypedArm TypedStmt TypedArm Texts Texts texts_in texts_armed y))
      (signed.arm_layer m (map-TypedArm TypedStmt TypedArm Signatures Signatures (of_step m) (of_arm m) y))
  arm_wants e y h = made_same (texts_armed e) _ (of_arm m e) _ (arm_texts e y h) (arm_signatures e y h)

  -- ---- rows of parts

  abbrev pub all_in : List TypedStmt → Wanted
  all_in ss = made (texts.concatenation (map texts_in ss)) (signed.concatenation (map (of_step m) ss))

  abbrev pub all_armed : List TypedArm → Wanted
  all_armed ms = made (texts.concatenation (map texts_armed ms)) (signed.concatenation (map (of_arm m) ms))

  abbrev pub all_else : Option (List TypedStmt) → Wanted
  all_else None = nothing
  all_else (Some ss) = all_in ss

  texts_by : (ss : List TypedStmt) → body_texts ss ≡ texts.concatenation (map texts_in ss)
  texts_by [] = refl
  texts_by (s ∷ ss) = ap (λ (us : Texts). texts_in s ++ us) (texts_by ss)

  signed_by : (ss : List TypedStmt) → flat_map (of_step m) ss ≡ signed.concatenation (map (of_step m) ss)
  signed_by [] = refl
  signed_by (s ∷ ss) = ap (λ (us : Signatures). of_step m s ++ us) (signed_by ss)

  pub wants_all : (ss : List TypedStmt) → wanted_by m ss ≡ all_in ss
  wants_all ss = made_same _ _ _ _ (texts_by ss) (signed_by ss)

  -- ---- statements

  pub wants_assign : (d : Place) (t : TypeNo) (e : TypedExpr)
      → wanted_in m (stmt.Assign d t e) ≡ beside (wanted_at m d) (wanted_of m e)
  wants_assign d t e = stmt_wants (stmt.Assign d t e) (step.Assign d t e) (stmt.outs-Assign d t e)

  pub wants_copy : (d e : Place) (t : TypeNo) → wanted_in m (stmt.Copy d e t) ≡ beside (wanted_at m d) (wanted_at m e)
  wants_copy d e t = stmt_wants (stmt.Copy d e t) (step.Copy d e t) (stmt.outs-Copy d e t)

  pub wants_copy_text : (d : Place) (t : TypeNo) (text : List ℕ)
      → wanted_in m (stmt.CopyText d t text) ≡ beside (wanted_at m d) (made (text ∷ []) [])
  wants_copy_text d t text = stmt_wants (stmt.CopyText d t text) (step.CopyText d t text) (stmt.outs-CopyText d t text)
      ∙ made_same _ _ _ _ refl (sym (append-nil _))

  pub wants_call : (c : Call) → wanted_in m (stmt.Call c) ≡ wanted_called m c
  wants_call c = stmt_wants (stmt.Call c) (step.Call c) (stmt.outs-Call c)

  pub wants_put : (e : TypedExpr) → wanted_in m (stmt.Put e) ≡ wanted_of m e
  wants_put e = stmt_wants (stmt.Put e) (step.Put e) (stmt.outs-Put e)

  pub wants_change : (o : Change) (d : Place) (t : TypeNo) (e : TypedExpr)
      → wanted_in m (stmt.Change o d t e) ≡ beside (wanted_at m d) (wanted_of m e)
  wants_change o d t e = stmt_wants (stmt.Change o d t e) (step.Change o d t e) (stmt.outs-Change o d t e)

  pub wants_member : (o : Membership) (d : Place) (e : TypedExpr)
      → wanted_in m (stmt.Membership o d e) ≡ beside (wanted_at m d) (wanted_of m e)
  wants_member o d e = stmt_wants (stmt.Membership o d e) (step.Membership o d e) (stmt.outs-Membership o d e)

  pub wants_halt : wanted_in m stmt.Halt ≡ nothing
  wants_halt = stmt_wants stmt.Halt step.Halt stmt.outs-Halt

  pub wants_if : (e : TypedExpr) (body : List TypedStmt)
      → wanted_in m (stmt.If e body None) ≡ beside (wanted_of m e) (beside (all_in body) nothing)
  wants_if e body = stmt_wants (stmt.If e body None) (step.If e body None) (stmt.outs-If e body None)

  pub wants_if_else : (e : TypedExpr) (body others : List TypedStmt)
      → wanted_in m (stmt.If e body (Some others)) ≡ beside (wanted_of m e) (beside (all_in body) (all_in others))
  wants_if_else e body others = stmt_wants (stmt.If e body (Some others)) (step.If e body (Some others))
      (stmt.outs-If e body (Some others))

  pub wants_case : (e : TypedExpr) (arms : List TypedArm)
      → wanted_in m (stmt.Case e arms None) ≡ beside (wanted_of m e) (beside (all_armed arms) nothing)
  wants_case e arms = stmt_wants (stmt.Case e arms None) (step.Case e arms None) (stmt.outs-Case e arms None)

  pub wants_case_else : (e : TypedExpr) (arms : List TypedArm) (others : List TypedStmt)
      → wanted_in m (stmt.Case e arms (Some others)) ≡ beside (wanted_of m e) (beside (all_armed arms) (all_in others))
  wants_case_else e arms others = stmt_wants (stmt.Case e arms (Some others)) (step.Case e arms (Some others))
      (stmt.outs-Case e arms (Some others))

  pub wants_while : (e : TypedExpr) (body : List TypedStmt)
      → wanted_in m (stmt.While e body) ≡ beside (wanted_of m e) (all_in body)
  wants_while e body = stmt_wants (stmt.While e body) (step.While e body) (stmt.outs-While e body)

  pub wants_repeat : (body : List TypedStmt) (e : TypedExpr)
      → wanted_in m (stmt.Repeat body e) ≡ beside (all_in body) (wanted_of m e)
  wants_repeat body e = stmt_wants (stmt.Repeat body e) (step.Repeat body e) (stmt.outs-Repeat body e)

  pub wants_loop : (body : List TypedStmt) → wanted_in m (stmt.Loop body) ≡ all_in body
  wants_loop body = stmt_wants (stmt.Loop body) (step.Loop body) (stmt.outs-Loop body)

  pub wants_exit : wanted_in m stmt.Exit ≡ nothing
  wants_exit = stmt_wants stmt.Exit step.Exit stmt.outs-Exit

  pub wants_return : wanted_in m stmt.Return ≡ nothing
  wants_return = stmt_wants stmt.Return step.Return stmt.outs-Return

  pub wants_give : (t : TypeNo) (e : TypedExpr) → wanted_in m (stmt.Give t e) ≡ wanted_of m e
  wants_give t e = stmt_wants (stmt.Give t e) (step.Give t e) (stmt.outs-Give t e)

  pub wants_for : (d : Place) (t : TypeNo) (start limit : TypedExpr) (by : ℤ) (body : List TypedStmt)
      → wanted_in m (stmt.For d t start limit by body)
      ≡ beside (wanted_at m d) (beside (wanted_of m start) (beside (wanted_of m limit) (all_in body)))
  wants_for d t start limit by body = stmt_wants (stmt.For d t start limit by body) (step.For d t start limit by body)
      (stmt.outs-For d t start limit by body)

  pub wants_with : (d : Place) (body : List TypedStmt)
      → wanted_in m (stmt.With d body) ≡ beside (wanted_at m d) (all_in body)
  wants_with d body = stmt_wants (stmt.With d body) (step.With d body) (stmt.outs-With d body)

  pub wants_arm : (a : TypedArm) → wanted_armed m a ≡ all_in a.body
  wants_arm a = arm_wants a (out-TypedArm a) refl
