-- How many addresses the code of a body keeps in locals: one for each WITH, INC, DEC, INCL, EXCL,
-- and string that is assigned.
use Rattle.std.specs.Prelude.{ℕ, suc, ◌+◌, List, [], ◌∷◌, map, Option, Some, None}
use Rattle.typed_tree.specs.declared.statement.TypedStmt.{TypedStmt, TypedStmt-F, fold-TypedStmt}
use Rattle.typed_tree.specs.declared.statement.TypedStmt.TheOpen as step
use Rattle.typed_tree.specs.declared.statement.TypedArm.{TypedArm, TypedArm-F, fold-TypedArm}

abbrev pub total : List ℕ → ℕ
total [] = 0
total (n ∷ ns) = n + total ns

abbrev pub optional : Option (List ℕ) → ℕ
optional None = 0
optional (Some ns) = total ns

abbrev pub step_layer : TypedStmt-F ℕ ℕ → ℕ
step_layer (step.Assign d t e) = 0
step_layer (step.Copy to from t) = 0
step_layer (step.CopyText d t text) = 1
step_layer (step.Call c) = 0
step_layer (step.Put e) = 0
step_layer (step.Change o d t e) = 1
step_layer (step.Membership o d e) = 1
step_layer step.Halt = 0
step_layer (step.If e body others) = total body + optional others
step_layer (step.Case e arms others) = total arms + optional others
step_layer (step.While e body) = total body
step_layer (step.Repeat body e) = total body
step_layer (step.Loop body) = total body
step_layer step.Exit = 0
step_layer step.Return = 0
step_layer (step.Give t e) = 0
step_layer (step.For d t start limit by body) = total body
step_layer (step.With d body) = suc (total body)

abbrev pub arm_layer : TypedArm-F ℕ ℕ → ℕ
arm_layer x = total x.body

unfoldable pub addresses_of : TypedStmt → ℕ
addresses_of = fold-TypedStmt ℕ ℕ step_layer arm_layer

unfoldable pub addresses_armed : TypedArm → ℕ
addresses_armed = fold-TypedArm ℕ ℕ step_layer arm_layer

abbrev pub addresses_in : List TypedStmt → ℕ
addresses_in body = total (map addresses_of body)
