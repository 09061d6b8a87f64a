use Rattle.law_simulation.proofs.Routines.{routine_does}
use Rattle.law_simulation.proofs.bodies.procedure_laws.Goals as goal

pub returns : goal.returns
returns c = record { routines = routine_does }
