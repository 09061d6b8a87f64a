use Rattle.check_scope.specs.Elaborated.{least}
use Rattle.law_typing.specs.Judging.{the_least}
use Rattle.law_typing.proofs.Gathering.{least_lawful}
use Rattle.law_rules.proofs.Following.{least_associates}
use Rattle.law_rules.proofs.Programs.{least_finds, programs_answer}
use Rattle.law_rules.proofs.bodies.program_laws.Goals as goal

pub returns : goal.returns
returns c = programs_answer least the_least least_lawful least_associates least_finds
