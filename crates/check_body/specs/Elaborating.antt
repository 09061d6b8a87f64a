-- How the statements of a body are elaborated.
use Rattle.std.specs.Prelude.{List, [], Option, Some, None, Result, Ok}
use Rattle.m2_tree.specs.declared.stmt.Stmt.{Stmt}
use Rattle.typed_tree.specs.declared.types.TypeNo.{TypeNo}
use Rattle.typed_tree.specs.declared.statement.TypedStmt.{TypedStmt}
use Rattle.check_scope.specs.declared.scope.Scope.{Scope}

-- in a scope; with the type of what the body returns, if it returns something
abbrev pub Elaborates : Type 0 → Type 0
Elaborates T = Scope T → Option (Result TypeNo T) → List Stmt → Result (List TypedStmt) T

-- the statements behind the BEGIN, if there is one
abbrev pub statements_of : {T : Type 0} → Elaborates T → Scope T → Option (Result TypeNo T)
    → Option (List Stmt) → Result (List TypedStmt) T
statements_of elaborates s returns None = Ok []
statements_of elaborates s returns (Some xs) = elaborates s returns xs
