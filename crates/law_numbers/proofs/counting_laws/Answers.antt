use Rattle.law_numbers.proofs.Counting.{modules_counted, blocks_counted}
use Rattle.law_numbers.proofs.counting_laws.Goals as goal

pub returns-clause-modules : goal.returns-clause-modules
returns-clause-modules c = modules_counted

pub returns-clause-blocks : goal.returns-clause-blocks
returns-clause-blocks c = blocks_counted
