-- What statements mean is the same with other numbers of modules.
use Rattle.std.specs.Prelude.{◌≡◌, List, Option, map}
use Rattle.std.specs.Option.{option_map}
use Rattle.m2_tree.specs.declared.stmt.Arm.{Arm}
use Rattle.m2_tree.specs.declared.stmt.Rest.{Rest}
use Rattle.m2_tree.specs.declared.stmt.Stmt.{Stmt}
use Rattle.typed_tree.specs.declared.types.TypeNo.{TypeNo}
use Rattle.check_scope.specs.Elaborated.{Gathers}
use Rattle.check_scope.specs.declared.scope.Scope.{Scope}
use Rattle.check_stmt_parts.specs.declared.around.Around.{Around}
use Rattle.check_stmt.specs.Statements.{rest, stmt, statements, arms}
use Rattle.def_exchange.specs.Moved.{Exchange, moved_type}
use Rattle.law_exchange_types.specs.Pieces.{map_ok}
use Rattle.law_exchange_types.specs.Scopes.{moved_scope}
use Rattle.law_exchange_exprs.specs.Steps.{moved_stmt, moved_arm}
use Rattle.law_exchange_stmts.specs.MovedStatements.{moved_around}

abbrev pub StatementMoves : Gathers → Type 0
StatementMoves g =
    (z : Exchange) (x : Stmt) (s : Scope g.Reported) (w : Around g.Reported)
    → stmt g x (moved_scope z s) (moved_around z w) ≡ map_ok (moved_stmt z) (stmt g x s w)

abbrev pub RestMoves : Gathers → Type 0
RestMoves g =
    (z : Exchange) (x : Rest) (s : Scope g.Reported) (w : Around g.Reported)
    → rest g x (moved_scope z s) (moved_around z w)
    ≡ map_ok (option_map (map (moved_stmt z))) (rest g x s w)

abbrev pub StatementsMove : Gathers → Type 0
StatementsMove g =
    (z : Exchange) (s : Scope g.Reported) (w : Around g.Reported) (xs : List Stmt)
    → statements g (moved_scope z s) (moved_around z w) xs
    ≡ map_ok (map (moved_stmt z)) (statements g s w xs)

abbrev pub ArmsMove : Gathers → Type 0
ArmsMove g =
    (z : Exchange) (s : Scope g.Reported) (w : Around g.Reported)
    (base : Option TypeNo) (xs : List Arm)
    → arms g (moved_scope z s) (moved_around z w) (option_map (moved_type z) base) xs
    ≡ map_ok (map (moved_arm z)) (arms g s w base xs)
