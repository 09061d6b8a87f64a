-- What is marked for each variant of a statement, from what is marked for its parts.
use Rattle.std.proofs.Common.{◌≡◌, ℕ, ℤ, List, [], ◌∷◌, ◌++◌, map, Some, None, refl, ap, ◌∙◌}
use Rattle.std.specs.List.{fold, flat_map}
use Rattle.std.proofs.lemmas.List.{append-nil}
use Rattle.typed_tree.specs.declared.types.TypeNo.{TypeNo}
use Rattle.typed_tree.specs.declared.computed.Place.{Place}
use Rattle.typed_tree.specs.declared.computed.TypedExpr.{TypedExpr}
use Rattle.typed_tree.specs.declared.computed.Call.{Call}
use Rattle.typed_tree.specs.declared.statement.Change.{Change}
use Rattle.typed_tree.specs.declared.statement.Membership.{Membership}
use Rattle.typed_tree.specs.declared.statement.TypedStmt.{TypedStmt, TypedStmt-F, out-TypedStmt, map-TypedStmt, fold_out-TypedStmt}
use Rattle.typed_tree.specs.declared.statement.TypedStmt.TheOpen as sl
use Rattle.typed_tree.specs.declared.statement.TypedStmt.TheVariants as sv
use Rattle.typed_tree.specs.declared.statement.TypedArm.{TypedArm, fold_out-TypedArm}
use Rattle.typed_tree.specs.declared.typed_module.Routine.{Routine}
use Rattle.typed_tree.specs.declared.typed_module.TypedModule.{TypedModule}
use Rattle.def_scheme.specs.Functions.{numbers_of}
use Rattle.def_scheme.specs.Exprs.{has_result}
use Rattle.def_scheme.specs.Signatures.{Signatures, signature, concatenation, step_layer, arm_layer, of_expr, of_place, of_call, of_step, of_routine, signatures_needed}
use Rattle.emit_tables.specs.declared.marks.Mark.{Mark}
use Rattle.emit_tables.specs.Marked.{with_one, with_all}
use Rattle.emit_tables.specs.Needed.{of_arm, with_step, with_arm, with_routine}
use Rattle.emit_tables.proofs.Variants.{none_needed, both, one_needed, walked}

-- lists that are joined at once
flat : {A : Type 0} (f : A → Signatures) (xs : List A) → flat_map f xs ≡ concatenation (map f xs)
flat f [] = refl
flat f (x ∷ xs) = ap (λ (ss : Signatures). f x ++ ss) (flat f xs)

flat_walked : {A : Type 0} (f : A → Signatures) (xs : List A) (ms : List Mark)
    → with_all (flat_map f xs) ms ≡ fold (λ ms x. with_all (f x) ms) ms xs
flat_walked f xs ms = ap (λ (ss : Signatures). with_all ss ms) (flat f xs) ∙ walked f xs ms

module _ (m : TypedModule) where
  abbrev opened : TypedStmt-F TypedStmt TypedArm → TypedStmt-F Signatures Signatures
  opened x = map-TypedStmt TypedStmt TypedArm Signatures Signatures (of_step m) (of_arm m) x

  at_stmt : (e : TypedStmt) (x : TypedStmt-F TypedStmt TypedArm) → out-TypedStmt e ≡ x
      → of_step m e ≡ step_layer m (opened x)
  unfolding of_step of_arm
  at_stmt e x h = fold_out-TypedStmt Signatures Signatures (step_layer m) (arm_layer m) e
      ∙ ap (λ (y : TypedStmt-F TypedStmt TypedArm). step_layer m (opened y)) h

  pub arm_is : (x : TypedArm) (ms : List Mark) → with_all (of_arm m x) ms ≡ fold (with_step m) ms x.body
  unfolding of_step of_arm
  arm_is x ms = ap (λ (ss : Signatures). with_all ss ms)
      (fold_out-TypedArm Signatures Signatures (step_layer m) (arm_layer m) x) ∙ walked (of_step m) x.body ms

  -- lists of statements and arms, and what stands behind them
  stmts : (xs : List TypedStmt) (ms : List Mark)
      → with_all (concatenation (map (of_step m) xs)) ms ≡ fold (with_step m) ms xs
  stmts xs ms = walked (of_step m) xs ms

  arms : (xs : List TypedArm) (ms : List Mark)
      → with_all (concatenation (map (of_arm m) xs)) ms ≡ fold (with_arm m) ms xs
  arms xs ms = walked (of_arm m) xs ms

  stmts_alone : (xs : List TypedStmt) (ms : List Mark)
      → with_all (concatenation (map (of_step m) xs) ++ []) ms ≡ fold (with_step m) ms xs
  stmts_alone xs ms = ap (λ (ss : Signatures). with_all ss ms) (append-nil (concatenation (map (of_step m) xs)))
      ∙ stmts xs ms

  arms_alone : (xs : List TypedArm) (ms : List Mark)
      → with_all (concatenation (map (of_arm m) xs) ++ []) ms ≡ fold (with_arm m) ms xs
  arms_alone xs ms = ap (λ (ss : Signatures). with_all ss ms) (append-nil (concatenation (map (of_arm m) xs)))
      ∙ arms xs ms

  stmts_both : (xs ys : List TypedStmt) (ms : List Mark)
      → with_all (concatenation (map (of_step m) xs) ++ concatenation (map (of_step m) ys)) ms
      ≡ fold (with_step m) (fold (with_step m) ms xs) ys
  stmts_both xs ys ms = both (concatenation (map (of_step m) xs)) (concatenation (map (of_step m) ys)) ms
      ∙ stmts ys (with_all (concatenation (map (of_step m) xs)) ms)
      ∙ ap (λ (ms : List Mark). fold (with_step m) ms ys) (stmts xs ms)

  arms_both : (xs : List TypedArm) (ys : List TypedStmt) (ms : List Mark)
      → with_all (concatenation (map (of_arm m) xs) ++ concatenation (map (of_step m) ys)) ms
      ≡ fold (with_step m) (fold (with_arm m) ms xs) ys
  arms_both xs ys ms = both (concatenation (map (of_arm m) xs)) (concatenation (map (of_step m) ys)) ms
      ∙ stmts ys (with_all (concatenation (map (of_arm m) xs)) ms)
      ∙ ap (λ (ms : List Mark). fold (with_step m) ms ys) (arms xs ms)

  pub stmt_Assign : (d : Place) (t : TypeNo) (e : TypedExpr) (ms : List Mark)
      → with_all (of_step m (sv.Assign d t e)) ms ≡ with_all (of_expr m e) (with_all (of_place m d) ms)
  stmt_Assign d t e ms = ap (λ (ss : Signatures). with_all ss ms)
      (at_stmt (sv.Assign d t e) (sl.Assign d t e) (sv.outs-Assign d t e)) ∙ both (of_place m d) (of_expr m e) ms

  pub stmt_Copy : (a b : Place) (t : TypeNo) (ms : List Mark)
      → with_all (of_step m (sv.Copy a b t)) ms ≡ with_all (of_place m b) (with_all (of_place m a) ms)
  stmt_Copy a b t ms = ap (λ (ss : Signatures). with_all ss ms)
      (at_stmt (sv.Copy a b t) (sl.Copy a b t) (sv.outs-Copy a b t)) ∙ both (of_place m a) (of_place m b) ms

  pub stmt_CopyText : (d : Place) (t : TypeNo) (text : List ℕ) (ms : List Mark)
      → with_all (of_step m (sv.CopyText d t text)) ms ≡ with_all (of_place m d) ms
  stmt_CopyText d t text ms = ap (λ (ss : Signatures). with_all ss ms)
      (at_stmt (sv.CopyText d t text) (sl.CopyText d t text) (sv.outs-CopyText d t text))

  pub stmt_Call : (c : Call) (ms : List Mark) → with_all (of_step m (sv.Call c)) ms ≡ with_all (of_call m c) ms
  stmt_Call c ms = ap (λ (ss : Signatures). with_all ss ms) (at_stmt (sv.Call c) (sl.Call c) (sv.outs-Call c))

  pub stmt_Put : (e : TypedExpr) (ms : List Mark) → with_all (of_step m (sv.Put e)) ms ≡ with_all (of_expr m e) ms
  stmt_Put e ms = ap (λ (ss : Signatures). with_all ss ms) (at_stmt (sv.Put e) (sl.Put e) (sv.outs-Put e))

  pub stmt_Change : (o : Change) (d : Place) (t : TypeNo) (e : TypedExpr) (ms : List Mark)
      → with_all (of_step m (sv.Change o d t e)) ms ≡ with_all (of_expr m e) (with_all (of_place m d) ms)
  stmt_Change o d t e ms = ap (λ (ss : Signatures). with_all ss ms)
      (at_stmt (sv.Change o d t e) (sl.Change o d t e) (sv.outs-Change o d t e)) ∙ both (of_place m d) (of_expr m e) ms

  pub stmt_Membership : (o : Membership) (d : Place) (e : TypedExpr) (ms : List Mark)
      → with_all (of_step m (sv.Membership o d e)) ms ≡ with_all (of_expr m e) (with_all (of_place m d) ms)
  stmt_Membership o d e ms = ap (λ (ss : Signatures). with_all ss ms)
      (at_stmt (sv.Membership o d e) (sl.Membership o d e) (sv.outs-Membership o d e))
      ∙ both (of_place m d) (of_expr m e) ms

  pub stmt_Halt : (ms : List Mark) → with_all (of_step m sv.Halt) ms ≡ ms
  stmt_Halt ms = ap (λ (ss : Signatures). with_all ss ms) (at_stmt sv.Halt sl.Halt sv.outs-Halt) ∙ none_needed ms

  pub stmt_If_None : (e : TypedExpr) (xs : List TypedStmt) (ms : List Mark)
      → with_all (of_step m (sv.If e xs None)) ms ≡ fold (with_step m) (with_all (of_expr m e) ms) xs
  stmt_If_None e xs ms = ap (λ (ss : Signatures). with_all ss ms)
      (at_stmt (sv.If e xs None) (sl.If e xs None) (sv.outs-If e xs None))
      ∙ both (of_expr m e) (concatenation (map (of_step m) xs) ++ []) ms ∙ stmts_alone xs (with_all (of_expr m e) ms)

  pub stmt_If_Some : (e : TypedExpr) (xs : List TypedStmt) (ys : List TypedStmt) (ms : List Mark)
      → with_all (of_step m (sv.If e xs (Some ys))) ms
      ≡ fold (with_step m) (fold (with_step m) (with_all (of_expr m e) ms) xs) ys
  stmt_If_Some e xs ys ms = ap (λ (ss : Signatures). with_all ss ms)
      (at_stmt (sv.If e xs (Some ys)) (sl.If e xs (Some ys)) (sv.outs-If e xs (Some ys)))
      ∙ both (of_expr m e) (concatenation (map (of_step m) xs) ++ concatenation (map (of_step m) ys)) ms
      ∙ stmts_both xs ys (with_all (of_expr m e) ms)

  pub stmt_Case_None : (e : TypedExpr) (xs : List TypedArm) (ms : List Mark)
      → with_all (of_step m (sv.Case e xs None)) ms ≡ fold (with_arm m) (with_all (of_expr m e) ms) xs
  stmt_Case_None e xs ms = ap (λ (ss : Signatures). with_all ss ms)
      (at_stmt (sv.Case e xs None) (sl.Case e xs None) (sv.outs-Case e xs None))
      ∙ both (of_expr m e) (concatenation (map (of_arm m) xs) ++ []) ms ∙ arms_alone xs (with_all (of_expr m e) ms)

  pub stmt_Case_Some : (e : TypedExpr) (xs : List TypedArm) (ys : List TypedStmt) (ms : List Mark)
      → with_all (of_step m (sv.Case e xs (Some ys))) ms
      ≡ fold (with_step m) (fold (with_arm m) (with_all (of_expr m e) ms) xs) ys
  stmt_Case_Some e xs ys ms = ap (λ (ss : Signatures). with_all ss ms)
      (at_stmt (sv.Case e xs (Some ys)) (sl.Case e xs (Some ys)) (sv.outs-Case e xs (Some ys)))
      ∙ both (of_expr m e) (concatenation (map (of_arm m) xs) ++ concatenation (map (of_step m) ys)) ms
      ∙ arms_both xs ys (with_all (of_expr m e) ms)

  pub stmt_While : (e : TypedExpr) (xs : List TypedStmt) (ms : List Mark)
      → with_all (of_step m (sv.While e xs)) ms ≡ fold (with_step m) (with_all (of_expr m e) ms) xs
  stmt_While e xs ms = ap (λ (ss : Signatures). with_all ss ms)
      (at_stmt (sv.While e xs) (sl.While e xs) (sv.outs-While e xs))
      ∙ both (of_expr m e) (concatenation (map (of_step m) xs)) ms ∙ stmts xs (with_all (of_expr m e) ms)

  pub stmt_Repeat : (xs : List TypedStmt) (e : TypedExpr) (ms : List Mark)
      → with_all (of_step m (sv.Repeat xs e)) ms ≡ with_all (of_expr m e) (fold (with_step m) ms xs)
  stmt_Repeat xs e ms = ap (λ (ss : Signatures). with_all ss ms)
      (at_stmt (sv.Repeat xs e) (sl.Repeat xs e) (sv.outs-Repeat xs e))
      ∙ both (concatenation (map (of_step m) xs)) (of_expr m e) ms
      ∙ ap (λ (ms : List Mark). with_all (of_expr m e) ms) (stmts xs ms)

  pub stmt_Loop : (xs : List TypedStmt) (ms : List Mark)
      → with_all (of_step m (sv.Loop xs)) ms ≡ fold (with_step m) ms xs
  stmt_Loop xs ms = ap (λ (ss : Signatures). with_all ss ms) (at_stmt (sv.Loop xs) (sl.Loop xs) (sv.outs-Loop xs))
      ∙ stmts xs ms

  pub stmt_Exit : (ms : List Mark) → with_all (of_step m sv.Exit) ms ≡ ms
  stmt_Exit ms = ap (λ (ss : Signatures). with_all ss ms) (at_stmt sv.Exit sl.Exit sv.outs-Exit) ∙ none_needed ms

  pub stmt_Return : (ms : List Mark) → with_all (of_step m sv.Return) ms ≡ ms
  stmt_Return ms = ap (λ (ss : Signatures). with_all ss ms) (at_stmt sv.Return sl.Return sv.outs-Return)
      ∙ none_needed ms

  pub stmt_Give : (t : TypeNo) (e : TypedExpr) (ms : List Mark)
      → with_all (of_step m (sv.Give t e)) ms ≡ with_all (of_expr m e) ms
  stmt_Give t e ms = ap (λ (ss : Signatures). with_all ss ms) (at_stmt (sv.Give t e) (sl.Give t e) (sv.outs-Give t e))

  pub stmt_For : (d : Place) (t : TypeNo) (a b : TypedExpr) (n : ℤ) (xs : List TypedStmt) (ms : List Mark)
      → with_all (of_step m (sv.For d t a b n xs)) ms
      ≡ fold (with_step m) (with_all (of_expr m b) (with_all (of_expr m a) (with_all (of_place m d) ms))) xs
  stmt_For d t a b n xs ms = ap (λ (ss : Signatures). with_all ss ms)
      (at_stmt (sv.For d t a b n xs) (sl.For d t a b n xs) (sv.outs-For d t a b n xs))
      ∙ both (of_place m d) (of_expr m a ++ (of_expr m b ++ concatenation (map (of_step m) xs))) ms
      ∙ both (of_expr m a) (of_expr m b ++ concatenation (map (of_step m) xs)) (with_all (of_place m d) ms)
      ∙ both (of_expr m b) (concatenation (map (of_step m) xs)) (with_all (of_expr m a) (with_all (of_place m d) ms))
      ∙ stmts xs (with_all (of_expr m b) (with_all (of_expr m a) (with_all (of_place m d) ms)))

  pub stmt_With : (d : Place) (xs : List TypedStmt) (ms : List Mark)
      → with_all (of_step m (sv.With d xs)) ms ≡ fold (with_step m) (with_all (of_place m d) ms) xs
  stmt_With d xs ms = ap (λ (ss : Signatures). with_all ss ms)
      (at_stmt (sv.With d xs) (sl.With d xs) (sv.outs-With d xs))
      ∙ both (of_place m d) (concatenation (map (of_step m) xs)) ms ∙ stmts xs (with_all (of_place m d) ms)

  pub routine_is : (r : Routine) (ms : List Mark)
      → with_all (of_routine m r) ms ≡ fold (with_step m)
      (with_one ms (signature (numbers_of m.types r) (has_result m.types r.heading))) r.body
  routine_is r ms =
      both (signature (numbers_of m.types r) (has_result m.types r.heading) ∷ []) (flat_map (of_step m) r.body) ms
      ∙ flat_walked (of_step m) r.body (with_all (signature (numbers_of m.types r) (has_result m.types r.heading) ∷ [])
      ms)
      ∙ ap (λ (xs : List Mark). fold (with_step m) xs r.body)
      (one_needed (signature (numbers_of m.types r) (has_result m.types r.heading)) ms)

  pub module_is : (ms : List Mark) → with_all (signatures_needed m) ms
      ≡ fold (with_step m) (fold (with_routine m) (fold (with_routine m) ms m.procedures) m.locals) m.body
  module_is ms =
      both (flat_map (of_routine m) m.procedures) (flat_map (of_routine m) m.locals ++ flat_map (of_step m) m.body) ms
      ∙ both (flat_map (of_routine m) m.locals) (flat_map (of_step m) m.body)
      (with_all (flat_map (of_routine m) m.procedures) ms)
      ∙ flat_walked (of_step m) m.body (with_all (flat_map (of_routine m) m.locals)
      (with_all (flat_map (of_routine m) m.procedures) ms))
      ∙ ap (λ (xs : List Mark). fold (with_step m) xs m.body)
      (flat_walked (of_routine m) m.locals (with_all (flat_map (of_routine m) m.procedures) ms)
      ∙ ap (λ (xs : List Mark). fold (with_routine m) xs m.locals) (flat_walked (of_routine m) m.procedures ms))

-- all of these
pub ruleset stmt_variants = (
  arm_is,
  stmt_Assign,
  stmt_Copy,
  stmt_CopyText,
  stmt_Call,
  stmt_Put,
  stmt_Change,
  stmt_Membership,
  stmt_Halt,
  stmt_If_None,
  stmt_If_Some,
  stmt_Case_None,
  stmt_Case_Some,
  stmt_While,
  stmt_Repeat,
  stmt_Loop,
  stmt_Exit,
  stmt_Return,
  stmt_Give,
  stmt_For,
  stmt_With,
)
