use Rattle.law_encoding.proofs.Texts.{text_below}
use Rattle.law_encoding.proofs.Weights.{module_below}
use Rattle.law_encoding.proofs.size_laws.Goals as goal

pub returns-clause-trees : goal.returns-clause-trees
returns-clause-trees c = λ ts m d. module_below ts m d

pub returns-clause-texts : goal.returns-clause-texts
returns-clause-texts c = λ text ts m h d. text_below text ts _ h (module_below ts m d)
