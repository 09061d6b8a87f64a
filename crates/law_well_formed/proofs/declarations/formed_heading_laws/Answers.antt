use Rattle.check_scope.specs.Elaborated.{least, every}
use Rattle.law_well_formed.proofs.Resolving.{names_stay}
use Rattle.law_well_formed.proofs.Headings.{headings_stay}
use Rattle.law_well_formed.proofs.declarations.formed_heading_laws.Goals as goal

pub returns-clause-least : goal.returns-clause-least
returns-clause-least c = names_stay least

pub returns-clause-every : goal.returns-clause-every
returns-clause-every c = names_stay every

pub returns-clause-least_headings : goal.returns-clause-least_headings
returns-clause-least_headings c = headings_stay least

pub returns-clause-every_headings : goal.returns-clause-every_headings
returns-clause-every_headings c = headings_stay every
