use Rattle.check_scope.specs.Elaborated.{every, least}
use Rattle.law_typing.specs.Judging.{all_of_them, the_least}
use Rattle.law_typing.proofs.Gathering.{all_lawful, least_lawful}
use Rattle.law_rules.proofs.Following.{all_associate, least_associates}
use Rattle.law_rules.proofs.Whole.{blocks_whole}
use Rattle.law_rules.proofs.bodies.inner_block_laws.Goals as goal

pub returns-clause-every_rule : goal.returns-clause-every_rule
returns-clause-every_rule c = blocks_whole every all_of_them all_lawful all_associate

pub returns-clause-least_rule : goal.returns-clause-least_rule
returns-clause-least_rule c = blocks_whole least the_least least_lawful least_associates
