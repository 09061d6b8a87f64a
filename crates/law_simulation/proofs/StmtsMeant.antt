-- One layer of a statement at a time: what it does.
use Rattle.std.proofs.Common.{◌≡◌, ℕ, ap, ◌∙◌}
use Rattle.typed_tree.specs.declared.statement.TypedArm.{TypedArm, TypedArm-F, out-TypedArm, map-TypedArm, fold_out-TypedArm, fold-TypedArm}
use Rattle.typed_tree.specs.declared.statement.TypedStmt.{TypedStmt, TypedStmt-F, out-TypedStmt, map-TypedStmt, fold_out-TypedStmt}
use Rattle.def_meaning.specs.Environment.{Modules}
use Rattle.def_meaning.specs.Expressions.{Asks}
use Rattle.def_meaning.specs.Statements.{Does, Arm, arm_layer}
use Rattle.def_meaning.specs.Whiles.{does_with}
use Rattle.law_simulation.specs.Begun.{step_layer, does}

module _ (p : Modules) (ask : Asks) (n : ℕ) where
  unfoldable pub arm_does : TypedArm → Arm
  arm_does = fold-TypedArm Does Arm (step_layer p ask n) (arm_layer p ask n)

  abbrev pub step_meant : TypedStmt-F TypedStmt TypedArm → TypedStmt-F Does Arm
  step_meant x = map-TypedStmt TypedStmt TypedArm Does Arm (does p ask n) arm_does x

  abbrev pub arm_meant : TypedArm-F TypedStmt TypedArm → TypedArm-F Does Arm
  arm_meant x = map-TypedArm TypedStmt TypedArm Does Arm (does p ask n) arm_does x

  pub step_means : (e : TypedStmt) (x : TypedStmt-F TypedStmt TypedArm) → out-TypedStmt e ≡ x
      → does p ask n e ≡ step_layer p ask n (step_meant x)
  unfolding does_with arm_does
  step_means e x h = fold_out-TypedStmt Does Arm (step_layer p ask n) (arm_layer p ask n) e
      ∙ ap (λ (y : TypedStmt-F TypedStmt TypedArm). step_layer p ask n (step_meant y)) h

  pub arm_means : (e : TypedArm) (x : TypedArm-F TypedStmt TypedArm) → out-TypedArm e ≡ x
      → arm_does e ≡ arm_layer p ask n (arm_meant x)
  unfolding does_with arm_does
  arm_means e x h = fold_out-TypedArm Does Arm (step_layer p ask n) (arm_layer p ask n) e
      ∙ ap (λ (y : TypedArm-F TypedStmt TypedArm). arm_layer p ask n (arm_meant y)) h
