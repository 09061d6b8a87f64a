use Rattle.check_scope.specs.Elaborated.{every, least}
use Rattle.law_numbers.proofs.Blocks.{blocks_numbered}
use Rattle.law_numbers.proofs.number_laws.Goals as goal

pub returns-clause-every_rule : goal.returns-clause-every_rule
returns-clause-every_rule c = blocks_numbered every

pub returns-clause-least_rule : goal.returns-clause-least_rule
returns-clause-least_rule c = blocks_numbered least
