use Rattle.check_scope.specs.Elaborated.{least, every}
use Rattle.law_well_formed.proofs.WholeModules.{modules_formed}
use Rattle.law_well_formed.proofs.modules.formed_module_laws.Goals as goal

pub returns-clause-least : goal.returns-clause-least
returns-clause-least c = modules_formed least

pub returns-clause-every : goal.returns-clause-every
returns-clause-every c = modules_formed every
