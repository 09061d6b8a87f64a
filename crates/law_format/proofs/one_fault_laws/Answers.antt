use Rattle.law_format.proofs.OneFault.{one_fault}
use Rattle.law_format.proofs.Readers.{modules_have_none, reader_answers_first}
use Rattle.law_format.proofs.one_fault_laws.Goals as goal

pub returns-clause-one : goal.returns-clause-one
returns-clause-one c bytes one other = one_fault bytes one other

pub returns-clause-none : goal.returns-clause-none
returns-clause-none c bytes m enc fault s = modules_have_none bytes m enc fault s

pub returns-clause-exact : goal.returns-clause-exact
returns-clause-exact c bytes fits fault = reader_answers_first bytes fits fault
