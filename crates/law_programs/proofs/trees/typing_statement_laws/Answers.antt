use Rattle.check_scope.specs.Elaborated.{least, every}
use Rattle.law_programs.proofs.Meanings.{meant_typed, head_typed}
use Rattle.law_programs.proofs.Statements.{statements_typed}
use Rattle.law_programs.proofs.trees.typing_statement_laws.Goals as goal

pub returns-clause-least : goal.returns-clause-least
returns-clause-least c = statements_typed least (λ x ws opens s h e f. meant_typed least x ws opens s h e f)
    (λ x ws opens s h d f. head_typed least x ws opens s h d f)

pub returns-clause-every : goal.returns-clause-every
returns-clause-every c = statements_typed every (λ x ws opens s h e f. meant_typed every x ws opens s h e f)
    (λ x ws opens s h d f. head_typed every x ws opens s h d f)
