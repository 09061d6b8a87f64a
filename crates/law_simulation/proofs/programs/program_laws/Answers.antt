use Rattle.law_simulation.proofs.RunsBodies.{bodies_behave}
use Rattle.law_simulation.proofs.RunsPrograms.{program_behaves}
use Rattle.law_simulation.proofs.programs.program_laws.Goals as goal

pub returns-clause-bodies : goal.returns-clause-bodies
returns-clause-bodies c = bodies_behave

pub returns-clause-programs : goal.returns-clause-programs
returns-clause-programs c = program_behaves
