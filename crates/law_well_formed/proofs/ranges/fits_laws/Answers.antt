use Rattle.law_well_formed.proofs.Spelled.{module_fits}
use Rattle.law_well_formed.proofs.Tokens.{tokens_fit}
use Rattle.law_well_formed.proofs.ranges.fits_laws.Goals as goal

pub returns-clause-trees : goal.returns-clause-trees
returns-clause-trees c = λ ts m e d. module_fits ts m e d

pub returns-clause-tokens : goal.returns-clause-tokens
returns-clause-tokens c = λ text ts h. tokens_fit text ts h

pub returns-clause-texts : goal.returns-clause-texts
returns-clause-texts c = λ text ts m h d. module_fits ts m (tokens_fit text ts h) d
