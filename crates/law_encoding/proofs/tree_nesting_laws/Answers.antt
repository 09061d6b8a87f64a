use Rattle.law_encoding.proofs.DeepTexts.{tree_below}
use Rattle.law_encoding.proofs.tree_nesting_laws.Goals as goal

pub returns : goal.returns
returns c = λ ts m d. tree_below ts m d
