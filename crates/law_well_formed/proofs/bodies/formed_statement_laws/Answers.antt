use Rattle.check_scope.specs.Elaborated.{least, every}
use Rattle.law_well_formed.proofs.Statements.{statements_formed}
use Rattle.law_well_formed.proofs.bodies.formed_statement_laws.Goals as goal

pub returns-clause-least : goal.returns-clause-least
returns-clause-least c = statements_formed least

pub returns-clause-every : goal.returns-clause-every
returns-clause-every c = statements_formed every
