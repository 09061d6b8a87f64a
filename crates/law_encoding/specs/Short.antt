-- The code of what the checker makes takes few bytes.
use Rattle.std.specs.Prelude.{◌≤◌, ℕ, ◌+◌, ◌-◌, ◌*◌, List, length, Option}
use Rattle.m2_tree.specs.declared.decl.Module.{Module}
use Rattle.m2_tree.specs.declared.expr.Expr.{Expr}
use Rattle.m2_tree.specs.declared.stmt.Stmt.{Stmt}
use Rattle.typed_tree.specs.declared.statement.TypedStmt.{TypedStmt}
use Rattle.typed_tree.specs.declared.known_types.Types.{Types}
use Rattle.typed_tree.specs.declared.table.Table.{Table}
use Rattle.typed_tree.specs.declared.typed_module.Routine.{Routine}
use Rattle.typed_tree.specs.declared.typed_module.TypedModule.{TypedModule}
use Rattle.check_scope.specs.Elaborated.{Gathers}
use Rattle.check_scope.specs.declared.scope.Scope.{Scope}
use Rattle.check_expr.specs.Meanings.{meanings_of}
use Rattle.check_stmt_parts.specs.declared.around.Around.{Around}
use Rattle.check_stmt.specs.Statements.{statements}
use Rattle.check_body.specs.Checks.{body_module}
use Rattle.def_grammar.specs.Refusal.{max_nesting}
use Rattle.layout_storage.specs.Frames.{formals_of}
use Rattle.def_scheme.specs.Coded.{Setting, Counts}
use Rattle.def_scheme.specs.Exprs.{Numbered}
use Rattle.def_scheme.specs.Steps.{body_code}
use Rattle.def_scheme.specs.Modules.{functions}
use Rattle.law_encoding.specs.Sizes.{sum_of}
use Rattle.law_encoding.specs.TypedSizes.{size_body, size_bodies}
use Rattle.law_encoding.specs.Counted.{AtMost}
use Rattle.law_encoding.specs.Nesting.{◌⊔◌, deepest_of}
use Rattle.law_encoding.specs.Outward.{outward_body, outward_routine, outward_bodies}
use Rattle.law_encoding.specs.OutwardMeant.{outward_designated}
use Rattle.law_encoding.specs.CodeBytes.{bytes, function_bytes}

-- bytes for each that a tree counts: less than 2 ^ 32 for the tree of the longest text
abbrev pub unit_bytes : ℕ
unit_bytes = 1023

-- The code of statements that go at most 200 procedures outwards takes at most 1023 bytes for each
-- that they count.
abbrev pub CodeIsShort : Type 0
CodeIsShort = (numbered : Numbered) (xs : List TypedStmt) → outward_body xs ≤ max_nesting
    → (s : Setting) (c : Counts) → bytes (body_code numbered xs s c).0 ≤ unit_bytes * size_body xs

-- What expressions and statements mean in a procedure goes outwards no further than the procedure
-- stands deep.
abbrev pub ExpressionsAreNear : Gathers → Type 0
ExpressionsAreNear g = (s : Scope g.Reported) (e : Expr)
    → AtMost outward_designated s.level ((meanings_of g e).means s)

abbrev pub StatementsAreNear : Gathers → Type 0
StatementsAreNear g = (s : Scope g.Reported) (a : Around g.Reported) (xs : List Stmt)
    → AtMost outward_body s.level (statements g s a xs)

-- how much further outwards the bodies of procedures go than these stand deep
abbrev pub beyond_routine : Routine → ℕ
beyond_routine r = outward_routine r - r.level

abbrev pub beyond_routines : TypedModule → ℕ
beyond_routines m = deepest_of beyond_routine m.procedures ⊔ deepest_of beyond_routine m.locals

-- In a module that the checker accepts no procedure goes further.
abbrev pub RoutinesAreNear : Gathers → Type 0
RoutinesAreNear g = (number : ℕ) (m : Module) (own : Option Table) (tables : List Table)
    → AtMost beyond_routines 0 (body_module g number m own tables)

-- ---- the functions of a module

-- beside its body a procedure counts one, and one for each formal of its heading
abbrev pub routine_counts : Types → Routine → ℕ
routine_counts types r = 1 + length (formals_of types r.heading) + size_body r.body

abbrev pub counts_in : TypedModule → ℕ
counts_in m =
    sum_of (routine_counts m.types) m.procedures + sum_of (routine_counts m.types) m.locals
    + size_body m.body

-- without the bodies: the procedures, and the formals of their headings
abbrev pub heading_counts : Types → Routine → ℕ
heading_counts types r = 1 + length (formals_of types r.heading)

abbrev pub headings_in : TypedModule → ℕ
headings_in m =
    sum_of (heading_counts m.types) m.procedures + sum_of (heading_counts m.types) m.locals

-- bytes for a procedure, and for a formal
abbrev pub heading_bytes : ℕ
heading_bytes = 204

-- The functions of a module that goes at most 200 procedures outwards take at most 1023 bytes for
-- each that its bodies count, 204 for each procedure and each formal, and 1023 more.
abbrev pub FunctionsAreShort : Type 0
FunctionsAreShort = (m : TypedModule) → outward_bodies m ≤ max_nesting
    → sum_of function_bytes (functions m)
    ≤ unit_bytes * (1 + size_bodies m) + heading_bytes * headings_in m
