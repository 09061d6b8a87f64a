use Rattle.check_scope.specs.Elaborated.{least}
use Rattle.law_typing.specs.Judging.{the_least}
use Rattle.law_typing.proofs.Gathering.{least_lawful}
use Rattle.law_rules.proofs.Finding.{least_finds}
use Rattle.law_rules.proofs.DefinitionsImporting.{names_agree}
use Rattle.law_rules.proofs.defining.agreeing_name_laws.Goals as goal

pub returns : goal.returns
returns c = names_agree least the_least least_lawful least_finds
