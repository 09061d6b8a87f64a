use Rattle.check_scope.specs.Elaborated.{every, least}
use Rattle.law_typing.specs.Judging.{all_of_them, the_least}
use Rattle.law_typing.proofs.Gathering.{all_lawful, least_lawful}
use Rattle.law_typed.proofs.Meant.{if_answered}
use Rattle.law_typed.proofs.Expressions.{designator_named}
use Rattle.law_typed.proofs.designator_laws.Goals as goal

pub returns-clause-every_rule : goal.returns-clause-every_rule
returns-clause-every_rule c = λ names exports senses s k n d x q. if_answered
    (designator_named every all_of_them all_lawful names exports senses s k n d) q

pub returns-clause-least_rule : goal.returns-clause-least_rule
returns-clause-least_rule c = λ names exports senses s k n d x q. if_answered
    (designator_named least the_least least_lawful names exports senses s k n d) q
