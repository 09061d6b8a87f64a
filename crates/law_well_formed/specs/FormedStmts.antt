-- What the checker makes of statements is well formed, if names mean what is there.
use Rattle.std.specs.Prelude.{ℕ, Bool, List, length}
use Rattle.m2_tree.specs.declared.stmt.Stmt.{Stmt}
use Rattle.typed_tree.specs.declared.typed_module.TypedModule.{TypedModule}
use Rattle.check_scope.specs.Elaborated.{Gathers}
use Rattle.check_scope.specs.declared.scope.Scope.{Scope}
use Rattle.def_scheme.specs.Exprs.{is_there}
use Rattle.law_modules.specs.WellFormed.{AreStmts}
use Rattle.law_well_formed.specs.Formed.{Holds, IsFormed}
use Rattle.check_stmt_parts.specs.declared.around.Around.{Around}
use Rattle.check_stmt.specs.Statements.{statements}

-- statements of a function or not, in a LOOP or not
abbrev pub StatementsAreFormed : Gathers → Type 0
StatementsAreFormed g = (m : TypedModule) (opens : ℕ → Bool) (s : Scope g.Reported)
    → IsFormed g m opens (length s.withs) s → (w : Around g.Reported) (xs : List Stmt)
    → Holds (AreStmts m (is_there w.gives) (length s.withs) w.in_loop) (statements g s w xs)
