-- A body is checked the same with other numbers of modules.
use Rattle.std.proofs.Common.{◌≡◌, ℕ, false, List, map, Option, Result, option_map}
use Rattle.m2_tree.specs.declared.decl.Module.{Module}
use Rattle.m2_tree.specs.declared.stmt.Stmt.{Stmt}
use Rattle.typed_tree.specs.declared.types.TypeNo.{TypeNo}
use Rattle.typed_tree.specs.declared.table.Table.{Table}
use Rattle.check_scope.specs.declared.scope.Scope.{Scope}
use Rattle.check_scope.specs.Elaborated.{Gathers}
use Rattle.check_body.specs.Checks.{elaborate_body, body_module}
use Rattle.def_exchange.specs.Moved.{Exchange, moved_table}
use Rattle.law_exchange_types.specs.Pieces.{map_ok}
use Rattle.law_exchange_types.specs.Scopes.{moved_scope}
use Rattle.law_exchange_bodies.specs.Modules.{moved_returns, moved_body, moved_module}
use Rattle.law_exchange_bodies.specs.Premises.{KeepsConsole}
use Rattle.law_exchange_bodies.proofs.Checked.{body_module_moves}
use Rattle.law_exchange_stmts.proofs.Statements.{statements_move}

module _ (z : Exchange) (g : Gathers) where
  pub elaborate_body_moves : (s : Scope g.Reported) (returns : Option (Result TypeNo g.Reported)) (body : List Stmt)
      → elaborate_body g (moved_scope z s) (moved_returns z returns) body
      ≡ moved_body z (elaborate_body g s returns body)
  elaborate_body_moves s returns body =
      statements_move z g s (record { gives = returns; in_loop = false }) body

  pub bodies_move : KeepsConsole z
      → (number : ℕ) (m : Module) (own : Option Table) (tables : List Table)
      → body_module g (z.there number) m (option_map (moved_table z) own) (map (moved_table z) tables)
      ≡ map_ok (moved_module z) (body_module g number m own tables)
  bodies_move k number m own tables =
      body_module_moves z g (elaborate_body g) elaborate_body_moves k number m own tables
