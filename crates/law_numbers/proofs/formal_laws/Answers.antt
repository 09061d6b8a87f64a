use Rattle.check_scope.specs.Elaborated.{every, least}
use Rattle.law_typing.specs.Judging.{all_of_them, the_least}
use Rattle.law_typing.proofs.Gathering.{all_lawful, least_lawful}
use Rattle.law_numbers.proofs.Inside.{insides_known}
use Rattle.law_numbers.proofs.formal_laws.Goals as goal

pub returns-clause-every_rule : goal.returns-clause-every_rule
returns-clause-every_rule c = insides_known every all_of_them all_lawful

pub returns-clause-least_rule : goal.returns-clause-least_rule
returns-clause-least_rule c = insides_known least the_least least_lawful
