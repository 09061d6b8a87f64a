use Rattle.check_scope.specs.Elaborated.{least, every}
use Rattle.law_encoding.proofs.Bounds.{modules_small}
use Rattle.law_encoding.proofs.Bounded.{bounded}
use Rattle.law_encoding.proofs.module_size_laws.Goals as goal

pub returns-clause-least : goal.returns-clause-least
returns-clause-least c = λ number m own tables. modules_small least number m own tables

pub returns-clause-every : goal.returns-clause-every
returns-clause-every c = λ number m own tables. modules_small every number m own tables

pub returns-clause-least_texts : goal.returns-clause-least_texts
returns-clause-least_texts c = λ text ts m l h d number own tables. bounded least text ts m l h d
    (modules_small least number m own tables)

pub returns-clause-every_texts : goal.returns-clause-every_texts
returns-clause-every_texts c = λ text ts m l h d number own tables. bounded every text ts m l h d
    (modules_small every number m own tables)
