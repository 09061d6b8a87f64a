use Rattle.check_scope.specs.Elaborated.{least, every}
use Rattle.law_programs.proofs.Meanings.{meant_typed, head_typed}
use Rattle.law_programs.proofs.trees.typing_laws.Goals as goal

pub returns-clause-least_expressions : goal.returns-clause-least_expressions
returns-clause-least_expressions c = λ x ws opens s h e. meant_typed least x ws opens s h e

pub returns-clause-every_expressions : goal.returns-clause-every_expressions
returns-clause-every_expressions c = λ x ws opens s h e. meant_typed every x ws opens s h e

pub returns-clause-least_designators : goal.returns-clause-least_designators
returns-clause-least_designators c = λ x ws opens s h d. head_typed least x ws opens s h d

pub returns-clause-every_designators : goal.returns-clause-every_designators
returns-clause-every_designators c = λ x ws opens s h d. head_typed every x ws opens s h d
