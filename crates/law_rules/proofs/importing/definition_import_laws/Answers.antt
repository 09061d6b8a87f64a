use Rattle.check_scope.specs.Elaborated.{every, least}
use Rattle.law_typing.specs.Judging.{all_of_them, the_least}
use Rattle.law_typing.proofs.Gathering.{all_lawful, least_lawful}
use Rattle.law_rules.proofs.ImportsDefining.{definition_imports}
use Rattle.law_rules.proofs.importing.definition_import_laws.Goals as goal

pub returns-clause-every_rule : goal.returns-clause-every_rule
returns-clause-every_rule c = λ home tables defs imports. definition_imports every all_of_them all_lawful home tables
    defs imports

pub returns-clause-least_rule : goal.returns-clause-least_rule
returns-clause-least_rule c = λ home tables defs imports. definition_imports least the_least least_lawful home tables
    defs imports
