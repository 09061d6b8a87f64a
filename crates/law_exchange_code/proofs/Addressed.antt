-- How many addresses the code of a body keeps does not depend on the numbers of modules.
use Rattle.std.proofs.Common.{map, ◌≡◌, ℕ, suc, ◌+◌, List, Some, None, refl, sym, ap}
use Rattle.std.proofs.lemmas.List.{map-id}
use Rattle.typed_tree.specs.declared.statement.TypedArm.{TypedArm-F, map-TypedArm}
use Rattle.typed_tree.specs.declared.statement.TypedStmt.{TypedStmt, TypedStmt-F, map-TypedStmt}
use Rattle.typed_tree.specs.declared.statement.TypedStmt.TheOpen as step
use Rattle.def_scheme.specs.Addresses.{total, step_layer, arm_layer, addresses_of, addresses_in}
use Rattle.def_exchange.specs.Moved.{Exchange}
use Rattle.def_exchange.specs.MovedTrees.{stmt_moved, arm_moved, moved_stmt}
use Rattle.law_exchange_code.proofs.Lists.{two_paths, map_kept}
use Rattle.law_exchange_code.proofs.StmtFusion.{StmtLayers, StmtPasses, passed_stmt}

same_all : (ns : List ℕ) → total (map (λ z. z) ns) ≡ total ns
same_all ns = ap total (map-id ns)

abbrev layers : StmtLayers ℕ ℕ
layers = record { stmt = step_layer; arm = arm_layer }

module _ (x : Exchange) where
  on_step : (y : TypedStmt-F ℕ ℕ) → step_layer (map-TypedStmt ℕ ℕ ℕ ℕ (λ z. z) (λ z. z) y) ≡ step_layer (stmt_moved x y)
  on_step (step.Assign d t e) = refl
  on_step (step.Copy to from t) = refl
  on_step (step.CopyText d t text) = refl
  on_step (step.Call c) = refl
  on_step (step.Put e) = refl
  on_step (step.Change o d t e) = refl
  on_step (step.Membership o d e) = refl
  on_step step.Halt = refl
  on_step (step.If e body None) = ap (λ (n : ℕ). n + 0) (same_all body)
  on_step (step.If e body (Some ys)) = two_paths (λ (a b : ℕ). a + b) (same_all body) (same_all ys)
  on_step (step.Case e arms None) = ap (λ (n : ℕ). n + 0) (same_all arms)
  on_step (step.Case e arms (Some ys)) = two_paths (λ (a b : ℕ). a + b) (same_all arms) (same_all ys)
  on_step (step.While e body) = same_all body
  on_step (step.Repeat body e) = same_all body
  on_step (step.Loop body) = same_all body
  on_step step.Exit = refl
  on_step step.Return = refl
  on_step (step.Give t e) = refl
  on_step (step.For d t start limit by body) = same_all body
  on_step (step.With d body) = ap (λ (n : ℕ). suc n) (same_all body)

  on_arm : (y : TypedArm-F ℕ ℕ) → arm_layer (map-TypedArm ℕ ℕ ℕ ℕ (λ z. z) (λ z. z) y) ≡ arm_layer (arm_moved x y)
  on_arm y = same_all y.body

  abbrev pass : StmtPasses x layers layers
  pass = record { hs = λ z. z; hr = λ z. z; stmt = on_step; arm = on_arm }

  stmt_kept : (s : TypedStmt) → addresses_of (moved_stmt x s) ≡ addresses_of s
  unfolding addresses_of
  stmt_kept s = sym (passed_stmt x layers layers pass s)

  pub addresses_kept : (body : List TypedStmt) → addresses_in (map (moved_stmt x) body) ≡ addresses_in body
  addresses_kept body = ap total (map_kept (moved_stmt x) addresses_of addresses_of stmt_kept body)
