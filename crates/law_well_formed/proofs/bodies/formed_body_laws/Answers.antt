use Rattle.check_scope.specs.Elaborated.{least, every}
use Rattle.law_well_formed.proofs.Induction.{elaborated_formed, blocks_formed}
use Rattle.law_well_formed.proofs.bodies.formed_body_laws.Goals as goal

pub returns-clause-least : goal.returns-clause-least
returns-clause-least c = (
  elaborated_formed least,
  λ elaborates forms ends b. blocks_formed least elaborates forms ends
      b,
)

pub returns-clause-every : goal.returns-clause-every
returns-clause-every c = (
  elaborated_formed every,
  λ elaborates forms ends b. blocks_formed every elaborates forms ends
      b,
)
