-- The code of well formed statements is valid.
use Rattle.std.proofs.Common.{◌≡◌, ℕ, suc, Bool, true, false, List, [], ◌++◌, map, Some, None, refl, subst}
use Rattle.typed_tree.specs.declared.statement.TypedArm.{TypedArm, out-TypedArm}
use Rattle.typed_tree.specs.declared.statement.TypedStmt.{TypedStmt, TypedStmt-F, out-TypedStmt}
use Rattle.typed_tree.specs.declared.statement.TypedStmt.TheOpen as step
use Rattle.typed_tree.specs.declared.statement.TypedStmt.TheVariants as stmt
use Rattle.def_scheme.specs.Signatures.{Signatures, concatenation, optional, of_expr, of_place, of_call, of_step}
use Rattle.def_scheme.specs.Signatures as sign
use Rattle.law_modules.specs.WellFormed.{IsStmt, Assign, Copy, CopyText, ProcedureCall, Put, Changed, Member, Halt, If, Case, While, Repeat, Loop, Exit, Return, Give, For, With, AreStmts, no_stmts, more_stmts, no_others, others, AreArms, no_arms, more_arms}
use Rattle.law_modules.proofs.Fits.{Body, Holds, fits_nothing, fits_then}
use Rattle.law_modules.proofs.Opened.{of_arm, step_signed, step_signs, arm_signs}
use Rattle.law_modules.proofs.Exprs.{AreKnown, first_known, rest_known}
use Rattle.law_modules.proofs.Values.{expr_valid, place_valid, call_valid}
use Rattle.law_modules.proofs.Steps as fine

module _ (b : Body) (h : Holds b) where
  step_knows : (e : TypedStmt) (x : TypedStmt-F TypedStmt TypedArm) → out-TypedStmt e ≡ x
      → AreKnown b.known (of_step b.home e) → AreKnown b.known (sign.step_layer b.home (step_signed b.home x))
  step_knows e x q k = subst (λ (s : Signatures). AreKnown b.known s) (step_signs b.home e x q) k

  arm_knows : (x : TypedArm) → AreKnown b.known (of_arm b.home x)
      → AreKnown b.known (concatenation (map (of_step b.home) x.body))
  arm_knows x k = subst (λ (s : Signatures). AreKnown b.known s) (arm_signs b.home x (out-TypedArm x) refl) k

  mutual
    pub stmt_valid : (w : ℕ) (l : Bool) (x : TypedStmt) → IsStmt b.home b.gives w l x
        → AreKnown b.known (of_step b.home x) → fine.FineStmt b h w l x
    stmt_valid _ _ _ (Assign w l d t e s x y) k = let j =
        step_knows (stmt.Assign d t e) (step.Assign d t e) (stmt.outs-Assign d t e) k in
        fine.assign_fine b h w l d t e s (place_valid b h w l d x
        (first_known b.known (of_place b.home d) (of_expr b.home e) (j)))
        (expr_valid b h w l e y (rest_known b.known (of_place b.home d) (of_expr b.home e) (j)))
    stmt_valid _ _ _ (Copy w l to from t x y) k = let j =
        step_knows (stmt.Copy to from t) (step.Copy to from t) (stmt.outs-Copy to from t) k in
        fine.copy_fine b h w l to from t (place_valid b h w l to x
        (first_known b.known (of_place b.home to) (of_place b.home from) (j)))
        (place_valid b h w l from y (rest_known b.known (of_place b.home to) (of_place b.home from) (j)))
    stmt_valid _ _ _ (CopyText w l d t text x) k = let j =
        step_knows (stmt.CopyText d t text) (step.CopyText d t text) (stmt.outs-CopyText d t text) k in
        fine.copy_text_fine b h w l d t text (place_valid b h w l d x (j))
    stmt_valid _ _ _ (ProcedureCall w l c x) k = let j = step_knows (stmt.Call c) (step.Call c) (stmt.outs-Call c) k in
        fine.called_fine b h w l c (call_valid b h w l c false x (j))
    stmt_valid _ _ _ (Put w l e x) k = let j = step_knows (stmt.Put e) (step.Put e) (stmt.outs-Put e) k in
        fine.put_fine b h w l e (expr_valid b h w l e x (j))
    stmt_valid _ _ _ (Changed w l o d t e s x y) k = let j =
        step_knows (stmt.Change o d t e) (step.Change o d t e) (stmt.outs-Change o d t e) k in
        fine.change_fine b h w l o d t e s (place_valid b h w l d x
        (first_known b.known (of_place b.home d) (of_expr b.home e) (j)))
        (expr_valid b h w l e y (rest_known b.known (of_place b.home d) (of_expr b.home e) (j)))
    stmt_valid _ _ _ (Member w l o d e x y) k = let j =
        step_knows (stmt.Membership o d e) (step.Membership o d e) (stmt.outs-Membership o d e) k in
        fine.member_fine b h w l o d e (place_valid b h w l d x
        (first_known b.known (of_place b.home d) (of_expr b.home e) (j)))
        (expr_valid b h w l e y (rest_known b.known (of_place b.home d) (of_expr b.home e) (j)))
    stmt_valid _ _ _ (Halt w l) k = fine.halt_fine b h w l
    stmt_valid _ _ _ (If w l e body _ x y (no_others _ _)) k = let j =
        step_knows (stmt.If e body None) (step.If e body None) (stmt.outs-If e body None) k in
        let i = rest_known b.known (of_expr b.home e) (concatenation (map (of_step b.home) body) ++ []) j in
        fine.if_fine b h w l e body (expr_valid b h w l e x
        (first_known b.known (of_expr b.home e) (concatenation (map (of_step b.home) body) ++ []) j))
        (stmts_valid w l body y (first_known b.known (concatenation (map (of_step b.home) body)) [] i))
    stmt_valid _ _ _ (If w l e body _ x y (others _ _ xs z)) k = let j =
        step_knows (stmt.If e body (Some xs)) (step.If e body (Some xs)) (stmt.outs-If e body (Some xs)) k in
        fine.if_else_fine b h w l e body xs (expr_valid b h w l e x
        (first_known b.known (of_expr b.home e)
        (concatenation (map (of_step b.home) body) ++ (concatenation (map (of_step b.home) xs))) (j)))
        (stmts_valid w l body y (first_known b.known (concatenation (map (of_step b.home) body))
        (concatenation (map (of_step b.home) xs))
        (rest_known b.known (of_expr b.home e)
        (concatenation (map (of_step b.home) body) ++ (concatenation (map (of_step b.home) xs))) (j))))
        (stmts_valid w l xs z (rest_known b.known (concatenation (map (of_step b.home) body))
        (concatenation (map (of_step b.home) xs))
        (rest_known b.known (of_expr b.home e)
        (concatenation (map (of_step b.home) body) ++ (concatenation (map (of_step b.home) xs))) (j))))
    stmt_valid _ _ _ (Case w l e arms _ x y (no_others _ _)) k = let j =
        step_knows (stmt.Case e arms None) (step.Case e arms None) (stmt.outs-Case e arms None) k in
        let i = rest_known b.known (of_expr b.home e) (concatenation (map (of_arm b.home) arms) ++ []) j in
        fine.case_alone_fine b h w l e arms (expr_valid b h w l e x
        (first_known b.known (of_expr b.home e) (concatenation (map (of_arm b.home) arms) ++ []) j))
        (arms_valid w l arms y (first_known b.known (concatenation (map (of_arm b.home) arms)) [] i))
    stmt_valid _ _ _ (Case w l e arms _ x y (others _ _ xs z)) k = let j =
        step_knows (stmt.Case e arms (Some xs)) (step.Case e arms (Some xs)) (stmt.outs-Case e arms (Some xs)) k in
        fine.case_else_fine b h w l e arms xs
        (expr_valid b h w l e x (first_known b.known (of_expr b.home e)
        (concatenation (map (of_arm b.home) arms) ++ (concatenation (map (of_step b.home) xs))) (j)))
        (arms_valid w l arms y (first_known b.known (concatenation (map (of_arm b.home) arms))
        (concatenation (map (of_step b.home) xs))
        (rest_known b.known (of_expr b.home e)
        (concatenation (map (of_arm b.home) arms) ++ (concatenation (map (of_step b.home) xs))) (j))))
        (stmts_valid w l xs z (rest_known b.known (concatenation (map (of_arm b.home) arms))
        (concatenation (map (of_step b.home) xs))
        (rest_known b.known (of_expr b.home e)
        (concatenation (map (of_arm b.home) arms) ++ (concatenation (map (of_step b.home) xs))) (j))))
    stmt_valid _ _ _ (While w l e body x y) k = let j =
        step_knows (stmt.While e body) (step.While e body) (stmt.outs-While e body) k in
        fine.while_fine b h w l e body (expr_valid b h w l e x
        (first_known b.known (of_expr b.home e) (concatenation (map (of_step b.home) body)) (j)))
        (stmts_valid w l body y (rest_known b.known (of_expr b.home e) (concatenation (map (of_step b.home) body)) (j)))
    stmt_valid _ _ _ (Repeat w l body e y x) k = let j =
        step_knows (stmt.Repeat body e) (step.Repeat body e) (stmt.outs-Repeat body e) k in
        fine.repeat_fine b h w l body e (stmts_valid w l body y
        (first_known b.known (concatenation (map (of_step b.home) body)) (of_expr b.home e) (j)))
        (expr_valid b h w l e x (rest_known b.known (concatenation (map (of_step b.home) body)) (of_expr b.home e) (j)))
    stmt_valid _ _ _ (Loop w l body y) k = let j =
        step_knows (stmt.Loop body) (step.Loop body) (stmt.outs-Loop body) k in
        fine.loop_fine b h w l body (stmts_valid w true body y (j))
    stmt_valid _ _ _ (Exit w) k = fine.exit_fine b h w
    stmt_valid _ _ _ (Return w l q) k = fine.return_fine b h w l q
    stmt_valid _ _ _ (Give w l t e q x) k =
        fine.give_fine b h w l t e q (expr_valid b h w l e x
        (step_knows (stmt.Give t e) (step.Give t e) (stmt.outs-Give t e) k))
    stmt_valid _ _ _ (For w l d t start limit by body s x y z v) k = let j =
        step_knows (stmt.For d t start limit by body) (step.For d t start limit by body)
        (stmt.outs-For d t start limit by body) k in
        fine.for_fine b h w l d t start limit by body s
        (place_valid b h w l d x (first_known b.known (of_place b.home d)
        (of_expr b.home start ++ (of_expr b.home limit ++ (concatenation (map (of_step b.home) body)))) (j)))
        (expr_valid b h w l start y (first_known b.known (of_expr b.home start)
        (of_expr b.home limit ++ (concatenation (map (of_step b.home) body)))
        (rest_known b.known (of_place b.home d)
        (of_expr b.home start ++ (of_expr b.home limit ++ (concatenation (map (of_step b.home) body)))) (j))))
        (expr_valid b h w l limit z (first_known b.known (of_expr b.home limit)
        (concatenation (map (of_step b.home) body))
        (rest_known b.known (of_expr b.home start) (of_expr b.home limit ++ (concatenation (map (of_step b.home) body)))
        (rest_known b.known (of_place b.home d)
        (of_expr b.home start ++ (of_expr b.home limit ++ (concatenation (map (of_step b.home) body)))) (j)))))
        (stmts_valid w l body v (rest_known b.known (of_expr b.home limit) (concatenation (map (of_step b.home) body))
        (rest_known b.known (of_expr b.home start) (of_expr b.home limit ++ (concatenation (map (of_step b.home) body)))
        (rest_known b.known (of_place b.home d)
        (of_expr b.home start ++ (of_expr b.home limit ++ (concatenation (map (of_step b.home) body)))) (j)))))
    stmt_valid _ _ _ (With w l d body x y) k = let j =
        step_knows (stmt.With d body) (step.With d body) (stmt.outs-With d body) k in
        fine.with_fine b h w l d body (place_valid b h w l d x
        (first_known b.known (of_place b.home d) (concatenation (map (of_step b.home) body)) (j)))
        (stmts_valid (suc w) l body y (rest_known b.known (of_place b.home d)
        (concatenation (map (of_step b.home) body)) (j)))

    pub stmts_valid : (w : ℕ) (l : Bool) (xs : List TypedStmt) → AreStmts b.home b.gives w l xs
        → AreKnown b.known (concatenation (map (of_step b.home) xs)) → fine.FineStmts b h w l xs
    stmts_valid _ _ _ (no_stmts w l) k = fits_nothing []
    stmts_valid _ _ _ (more_stmts w l x xs y ys) k =
        fits_then (stmt_valid w l x y (first_known b.known (of_step b.home x) (concatenation (map (of_step b.home) xs))
        k)) (stmts_valid w l xs ys (rest_known b.known (of_step b.home x) (concatenation (map (of_step b.home) xs)) k))

    arms_valid : (w : ℕ) (l : Bool) (xs : List TypedArm) → AreArms b.home b.gives w l xs
        → AreKnown b.known (concatenation (map (of_arm b.home) xs)) → fine.FineArmsOf b h w l xs
    arms_valid _ _ _ (no_arms w l) k = tt
    arms_valid _ _ _ (more_arms w l x xs y ys) k = (
      fine.arm_fine b h w l x (stmts_valid w l x.body y
          (arm_knows x (first_known b.known (of_arm b.home x) (concatenation (map (of_arm b.home) xs)) k))),
      arms_valid w l xs ys (rest_known b.known (of_arm b.home x) (concatenation (map (of_arm b.home) xs)) k),
    )
