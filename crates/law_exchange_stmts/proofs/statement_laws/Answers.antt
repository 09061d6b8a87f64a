use Rattle.check_scope.specs.Elaborated.{Gathers, every, least}
use Rattle.law_exchange_stmts.specs.Laws.{StatementMoves, RestMoves, StatementsMove, ArmsMove}
use Rattle.law_exchange_stmts.proofs.Statements.{stmt_moves, rest_moves, statements_move, arms_move}
use Rattle.law_exchange_stmts.proofs.statement_laws.Goals as goal

all : (g : Gathers) → StatementMoves g × RestMoves g × StatementsMove g × ArmsMove g
all g = (λ z. stmt_moves z g, λ z. rest_moves z g, λ z. statements_move z g, λ z. arms_move z g)

pub returns : goal.returns
returns c = record { every_rule = all every; least_rule = all least }
