-- Trees are no larger than their texts, and typed trees no larger than trees.
use Rattle.std.specs.Prelude.{◌≤◌, ℕ, ◌+◌, ◌*◌, List, Option, length}
use Rattle.m2_tree.specs.declared.token.Token.{Token}
use Rattle.m2_tree.specs.declared.expr.Expr.{Expr}
use Rattle.m2_tree.specs.declared.expr.Designator.{Designator}
use Rattle.m2_tree.specs.declared.stmt.Stmt.{Stmt}
use Rattle.m2_tree.specs.declared.decl.Module.{Module}
use Rattle.typed_tree.specs.declared.table.Table.{Table}
use Rattle.scan_tokens.specs.Division.{HasTokens, max_text}
use Rattle.def_grammar.specs.Refusal.{IsModule}
use Rattle.check_scope.specs.Elaborated.{Gathers}
use Rattle.check_scope.specs.declared.scope.Scope.{Scope}
use Rattle.check_expr.specs.Meanings.{meanings_of, head}
use Rattle.check_stmt_parts.specs.declared.around.Around.{Around}
use Rattle.check_stmt.specs.Statements.{statements}
use Rattle.check_body.specs.Checks.{body_module}
use Rattle.typed_tree.specs.declared.statement.TypedStmt.{TypedStmt}
use Rattle.def_scheme.specs.Coded.{Setting, Counts}
use Rattle.def_scheme.specs.Exprs.{Numbered}
use Rattle.def_scheme.specs.Steps.{body_code}
use Rattle.def_scheme.specs.Signatures.{of_step}
use Rattle.typed_tree.specs.declared.typed_module.TypedModule.{TypedModule}
use Rattle.law_encoding.specs.Sizes.{size_expr, size_designator, size_stmts, size_module}
use Rattle.law_encoding.specs.TypedSizes.{size_step, size_body, size_bodies}
use Rattle.law_encoding.specs.Counted.{AtMost, size_designated as size_meant}

-- The tree of tokens counts at most four for each of them.
abbrev pub TreesAreSmall : Type 0
TreesAreSmall = (ts : List Token) (m : Module) → IsModule ts m → size_module m ≤ 4 * length ts

-- The tree of a text counts at most four for each of its bytes, and four for its end.
abbrev pub TextsAreSmall : Type 0
TextsAreSmall = (text : List ℕ) (ts : List Token) (m : Module) → HasTokens text ts → IsModule ts m
    → size_module m ≤ 4 * (1 + length text)

-- What an expression or a designator means counts no more than it does, if broken rules are
-- gathered so.
abbrev pub ExpressionsAreSmall : Gathers → Type 0
ExpressionsAreSmall g = (s : Scope g.Reported) (e : Expr)
    → AtMost size_meant (size_expr e) ((meanings_of g e).means s)

abbrev pub DesignatorsAreSmall : Gathers → Type 0
DesignatorsAreSmall g = (s : Scope g.Reported) (d : Designator)
    → AtMost size_meant (1 + size_designator d) ((head g d).means s)

-- The same of statements.
abbrev pub StatementsAreSmall : Gathers → Type 0
StatementsAreSmall g = (s : Scope g.Reported) (a : Around g.Reported) (xs : List Stmt)
    → AtMost size_body (size_stmts xs) (statements g s a xs)

-- The bodies of a module that the checker accepts count no more than the module does.
abbrev pub ModulesAreSmall : Gathers → Type 0
ModulesAreSmall g = (number : ℕ) (m : Module) (own : Option Table) (tables : List Table)
    → AtMost size_bodies (size_module m) (body_module g number m own tables)

-- In a text that is not too long, bodies count at most this many.
abbrev pub most : ℕ
most = 4 * (1 + max_text)

abbrev pub BodiesAreSmall : Gathers → Type 0
BodiesAreSmall g = (text : List ℕ) (ts : List Token) (m : Module) → length text ≤ max_text
    → HasTokens text ts → IsModule ts m
    → (number : ℕ) (own : Option Table) (tables : List Table)
    → AtMost size_bodies most (body_module g number m own tables)

-- The code of statements takes no more locals, for addresses and for numbers, than they count.
abbrev pub LocalsAreFew : Type 0
LocalsAreFew = (numbered : Numbered) (xs : List TypedStmt) (s : Setting) (c : Counts)
    → let after = (body_code numbered xs s c).1 in
    (after.numbers ≤ c.numbers + size_body xs) × (after.addresses ≤ c.addresses + size_body xs)

-- A statement calls through the table no more often than it counts.
abbrev pub TableCallsAreFew : Type 0
TableCallsAreFew = (m : TypedModule) (x : TypedStmt) → length (of_step m x) ≤ size_step x
