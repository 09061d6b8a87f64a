use Rattle.law_simulation.proofs.Linked.{is_linked}
use Rattle.law_simulation.proofs.LinkedPrograms.{typed_behave}
use Rattle.law_simulation.proofs.programs.linked_laws.Goals as goal

pub returns-clause-modules : goal.returns-clause-modules
returns-clause-modules c = λ p pages distinct few coherent place m there. is_linked p pages distinct few coherent place
    m there

pub returns-clause-programs : goal.returns-clause-programs
returns-clause-programs c = typed_behave
