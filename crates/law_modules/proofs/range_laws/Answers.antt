use Rattle.law_modules.proofs.Known.{range_at}
use Rattle.law_modules.proofs.range_laws.Goals as goal

pub returns : goal.returns
returns c = range_at
