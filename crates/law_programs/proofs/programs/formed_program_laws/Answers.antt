use Rattle.law_programs.proofs.ValidPrograms.{programs_formed, programs_valid}
use Rattle.law_programs.proofs.Links.{link_valid}
use Rattle.law_programs.proofs.programs.formed_program_laws.Goals as goal

pub returns-clause-formed : goal.returns-clause-formed
returns-clause-formed c = programs_formed

pub returns-clause-valid : goal.returns-clause-valid
returns-clause-valid c = programs_valid

pub returns-clause-links : goal.returns-clause-links
returns-clause-links c = link_valid
