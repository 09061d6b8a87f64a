use Rattle.law_programs.proofs.Tables.{tables_stand}
use Rattle.law_programs.proofs.Bodies.{bodies_stand}
use Rattle.law_programs.proofs.typed_programs.typing_table_laws.Goals as goal

pub returns-clause-tables : goal.returns-clause-tables
returns-clause-tables c = λ trees files jobs fit job t e. tables_stand trees files jobs fit job t e

pub returns-clause-bodies : goal.returns-clause-bodies
returns-clause-bodies c = λ fs files jobs starts graph fit m job t f e. bodies_stand fs files jobs starts graph fit m
    job t f e
