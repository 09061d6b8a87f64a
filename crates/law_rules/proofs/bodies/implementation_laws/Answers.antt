use Rattle.check_scope.specs.Elaborated.{every, least}
use Rattle.law_typing.specs.Judging.{all_of_them, the_least}
use Rattle.law_typing.proofs.Gathering.{all_lawful, least_lawful}
use Rattle.law_rules.proofs.Following.{least_associates}
use Rattle.law_rules.proofs.Programs.{least_finds}
use Rattle.law_rules.proofs.BodiesImplementing.{implementations_answer, lonely_refused}
use Rattle.law_rules.proofs.bodies.implementation_laws.Goals as goal

pub returns-clause-least_rule : goal.returns-clause-least_rule
returns-clause-least_rule c = implementations_answer least the_least least_lawful least_associates least_finds

pub returns-clause-every_lonely : goal.returns-clause-every_lonely
returns-clause-every_lonely c = lonely_refused every all_of_them all_lawful

pub returns-clause-least_lonely : goal.returns-clause-least_lonely
returns-clause-least_lonely c = lonely_refused least the_least least_lawful
