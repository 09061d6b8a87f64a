use Rattle.check_scope.specs.Elaborated.{least}
use Rattle.law_exchange_bodies.proofs.Whole.{bodies_move}
use Rattle.law_exchange_bodies.proofs.body_laws.Goals as goal

pub returns : goal.returns
returns c = record { bodies = λ x. bodies_move x least }
