use Rattle.check_scope.specs.Elaborated.{least, every}
use Rattle.law_well_formed.proofs.NamedImports.{tables_named, modules_stand}
use Rattle.law_well_formed.proofs.modules.import_laws.Goals as goal

pub returns-clause-tables_least : goal.returns-clause-tables_least
returns-clause-tables_least c = tables_named least

pub returns-clause-tables_every : goal.returns-clause-tables_every
returns-clause-tables_every c = tables_named every

pub returns-clause-least : goal.returns-clause-least
returns-clause-least c = modules_stand least

pub returns-clause-every : goal.returns-clause-every
returns-clause-every c = modules_stand every
