use Rattle.check_scope.specs.Elaborated.{every, least}
use Rattle.law_typing.specs.Judging.{all_of_them, the_least}
use Rattle.law_typing.proofs.Knowing.{names_there}
use Rattle.law_typing.proofs.scope_laws.Goals as goal

pub returns-clause-every_rule : goal.returns-clause-every_rule
returns-clause-every_rule c = names_there every all_of_them

pub returns-clause-least_rule : goal.returns-clause-least_rule
returns-clause-least_rule c = names_there least the_least
