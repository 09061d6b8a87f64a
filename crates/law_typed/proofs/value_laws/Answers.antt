use Rattle.check_scope.specs.Elaborated.{every, least}
use Rattle.law_typing.specs.Judging.{all_of_them, the_least}
use Rattle.law_typing.proofs.Gathering.{all_lawful, least_lawful}
use Rattle.law_typed.proofs.Meant.{if_answered}
use Rattle.law_typed.proofs.Designators.{given}
use Rattle.law_typed.proofs.Arguments.{actuals_so}
use Rattle.law_typed.proofs.Expressions.{expression_typed}
use Rattle.law_typed.proofs.value_laws.Goals as goal

pub returns-clause-every_rule : goal.returns-clause-every_rule
returns-clause-every_rule c = (
  λ names exports senses s k n broken t at e x q. if_answered
      (given every all_of_them all_lawful names exports senses s k n broken t at e
      (expression_typed every all_of_them all_lawful names exports senses s k n e).coded) q,
  λ names exports senses s k n
      fs args xs l q. if_answered (actuals_so every all_of_them all_lawful names exports senses s k n fs args l
      (λ e m. expression_typed every all_of_them all_lawful names exports senses s k n e)) q,
  λ names exports senses s k n
      e x q. if_answered (expression_typed every all_of_them all_lawful names exports senses s k n e).named q,
)

pub returns-clause-least_rule : goal.returns-clause-least_rule
returns-clause-least_rule c = (
  λ names exports senses s k n broken t at e x q. if_answered
      (given least the_least least_lawful names exports senses s k n broken t at e
      (expression_typed least the_least least_lawful names exports senses s k n e).coded) q,
  λ names exports senses s k n
      fs args xs l q. if_answered (actuals_so least the_least least_lawful names exports senses s k n fs args l
      (λ e m. expression_typed least the_least least_lawful names exports senses s k n e)) q,
  λ names exports senses s k n
      e x q. if_answered (expression_typed least the_least least_lawful names exports senses s k n e).named q,
)
