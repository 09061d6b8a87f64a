use Rattle.law_simulation.proofs.Mains.{main_does}
use Rattle.law_simulation.proofs.bodies.body_laws.Goals as goal

pub returns : goal.returns
returns c = main_does
