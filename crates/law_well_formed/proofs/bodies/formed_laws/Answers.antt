use Rattle.check_scope.specs.Elaborated.{least, every}
use Rattle.law_well_formed.proofs.Meanings.{meant_formed}
use Rattle.law_well_formed.proofs.bodies.formed_laws.Goals as goal

pub returns-clause-least : goal.returns-clause-least
returns-clause-least c = meant_formed least

pub returns-clause-every : goal.returns-clause-every
returns-clause-every c = meant_formed every
