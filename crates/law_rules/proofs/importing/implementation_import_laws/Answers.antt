use Rattle.check_scope.specs.Elaborated.{every, least}
use Rattle.law_typing.specs.Judging.{all_of_them, the_least}
use Rattle.law_typing.proofs.Gathering.{all_lawful, least_lawful}
use Rattle.law_rules.proofs.Implementing.{implementation_imports}
use Rattle.law_rules.proofs.importing.implementation_import_laws.Goals as goal

pub returns-clause-every_rule : goal.returns-clause-every_rule
returns-clause-every_rule c = λ exported s e imports. implementation_imports every all_of_them all_lawful exported s e
    imports

pub returns-clause-least_rule : goal.returns-clause-least_rule
returns-clause-least_rule c = λ exported s e imports. implementation_imports least the_least least_lawful exported s e
    imports
