use Rattle.law_simulation.proofs.TypedBodies as laws
use Rattle.law_simulation.proofs.BodiesPrograms as programs
use Rattle.law_simulation.proofs.bodies.typed_body_laws.Goals as goal

pub returns-clause-parts : goal.returns-clause-parts
returns-clause-parts c = laws.parts

pub returns-clause-mains : goal.returns-clause-mains
returns-clause-mains c = laws.mains

pub returns-clause-bodies : goal.returns-clause-bodies
returns-clause-bodies c = laws.typed_bodies

pub returns-clause-programs : goal.returns-clause-programs
returns-clause-programs c = programs.typed_programs
