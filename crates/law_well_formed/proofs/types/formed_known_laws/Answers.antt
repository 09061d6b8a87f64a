use Rattle.check_scope.specs.Elaborated.{least, every}
use Rattle.law_well_formed.proofs.KnownDefinitions.{tables_formed}
use Rattle.law_well_formed.proofs.KnownWalks.{checked_formed}
use Rattle.law_well_formed.proofs.types.formed_known_laws.Goals as goal

pub returns-clause-least_tables : goal.returns-clause-least_tables
returns-clause-least_tables c = λ types_of home m tables e p. tables_formed least types_of home m tables e p

pub returns-clause-every_tables : goal.returns-clause-every_tables
returns-clause-every_tables c = λ types_of home m tables e p. tables_formed every types_of home m tables e p

pub returns-clause-least_bodies : goal.returns-clause-least_bodies
returns-clause-least_bodies c = λ elaborates types_of number m own tables e o p. checked_formed least elaborates
    types_of number m own tables e o p

pub returns-clause-every_bodies : goal.returns-clause-every_bodies
returns-clause-every_bodies c = λ elaborates types_of number m own tables e o p. checked_formed every elaborates
    types_of number m own tables e o p
