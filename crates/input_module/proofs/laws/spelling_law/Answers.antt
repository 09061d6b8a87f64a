use Rattle.input_module.proofs.Reading.{read_back, all_held}
use Rattle.input_module.proofs.laws.spelling_law.Goals as goal

pub returns-clause-reads : goal.returns-clause-reads
returns-clause-reads c = read_back

pub returns-clause-holds : goal.returns-clause-holds
returns-clause-holds c = all_held
