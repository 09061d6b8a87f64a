use Rattle.check_scope.specs.Elaborated.{every, least}
use Rattle.law_typing.specs.Judging.{all_of_them, the_least}
use Rattle.law_typing.proofs.Gathering.{all_lawful, least_lawful}
use Rattle.law_typing.proofs.Looping.{run_answers}
use Rattle.law_typing.proofs.run_laws.Goals as goal

pub returns-clause-every_rule : goal.returns-clause-every_rule
returns-clause-every_rule c = λ names exports own s knows owns. run_answers every all_of_them all_lawful names exports
    own s knows owns

pub returns-clause-least_rule : goal.returns-clause-least_rule
returns-clause-least_rule c = λ names exports own s knows owns. run_answers least the_least least_lawful names exports
    own s knows owns
