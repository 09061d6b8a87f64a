use Rattle.law_format.proofs.Deciding.{first_fault_decides}
use Rattle.law_format.proofs.fault_laws.Goals as goal

pub returns : goal.returns
returns c = first_fault_decides
