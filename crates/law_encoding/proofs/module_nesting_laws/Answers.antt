use Rattle.check_scope.specs.Elaborated.{least, every}
use Rattle.law_encoding.proofs.DeepTexts.{tree_below}
use Rattle.law_encoding.proofs.Bounds.{modules_shallow}
use Rattle.law_encoding.proofs.DeepFunctions.{accepted_low}
use Rattle.law_encoding.proofs.module_nesting_laws.Goals as goal

pub returns-clause-least : goal.returns-clause-least
returns-clause-least c = λ number m own tables. modules_shallow least number m own tables

pub returns-clause-every : goal.returns-clause-every
returns-clause-every c = λ number m own tables. modules_shallow every number m own tables

pub returns-clause-least_accepted : goal.returns-clause-least_accepted
returns-clause-least_accepted c = λ ts m d number own tables. accepted_low _ (tree_below ts m d)
    (modules_shallow least number m own tables)

pub returns-clause-every_accepted : goal.returns-clause-every_accepted
returns-clause-every_accepted c = λ ts m d number own tables. accepted_low _ (tree_below ts m d)
    (modules_shallow every number m own tables)
