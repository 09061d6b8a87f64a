use Rattle.law_simulation.proofs.JumpTables.{table_cases}
use Rattle.law_simulation.proofs.constructs.table_laws.Goals as goal

pub returns : goal.returns
returns c = table_cases
