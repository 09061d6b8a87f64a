use Rattle.law_programs.proofs.Reach.{tables_same, bodies_know}
use Rattle.law_programs.proofs.programs.formed_reach_laws.Goals as goal

pub returns-clause-tables : goal.returns-clause-tables
returns-clause-tables c = λ trees files jobs fit job t e. tables_same trees files jobs fit job t e

pub returns-clause-bodies : goal.returns-clause-bodies
returns-clause-bodies c = λ trees files jobs fit m job f. bodies_know trees files jobs fit m job f
