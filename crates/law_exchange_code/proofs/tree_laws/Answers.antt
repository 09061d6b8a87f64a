use Rattle.law_exchange_code.proofs.Variants.{moves_by_parts}
use Rattle.law_exchange_code.proofs.tree_laws.Goals as goal

pub returns : goal.returns
returns c = moves_by_parts
