use Rattle.check_scope.specs.Elaborated.{least, every}
use Rattle.law_well_formed.proofs.Exports.{tables_export}
use Rattle.law_well_formed.proofs.TablesDefinitions.{tables_number}
use Rattle.law_well_formed.proofs.modules.table_laws.Goals as goal

pub returns-clause-least : goal.returns-clause-least
returns-clause-least c = (tables_export least, tables_number least)

pub returns-clause-every : goal.returns-clause-every
returns-clause-every c = (tables_export every, tables_number every)
