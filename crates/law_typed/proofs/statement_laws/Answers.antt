use Rattle.check_scope.specs.Elaborated.{every, least}
use Rattle.law_typing.specs.Judging.{all_of_them, the_least}
use Rattle.law_typing.proofs.Gathering.{all_lawful, least_lawful}
use Rattle.law_typed.proofs.Meant.{if_answered}
use Rattle.law_typed.proofs.Statements.{statement_so}
use Rattle.law_typed.proofs.statement_laws.Goals as goal

pub returns-clause-every_rule : goal.returns-clause-every_rule
returns-clause-every_rule c = λ exports w s a k x y q. if_answered
    (statement_so every all_of_them all_lawful exports w s a k x) q

pub returns-clause-least_rule : goal.returns-clause-least_rule
returns-clause-least_rule c = λ exports w s a k x y q. if_answered
    (statement_so least the_least least_lawful exports w s a k x) q
