use Rattle.law_encoding.proofs.DeepCodeSteps.{body_levels}
use Rattle.law_encoding.proofs.DeepFunctions.{functions_low, link_low}
use Rattle.law_encoding.proofs.code_nesting_laws.Goals as goal

pub returns-clause-statements : goal.returns-clause-statements
returns-clause-statements c = λ numbered xs s d. (body_levels numbered xs).at_most s d

pub returns-clause-functions : goal.returns-clause-functions
returns-clause-functions c = λ m. functions_low m

pub returns-clause-link : goal.returns-clause-link
returns-clause-link c = λ ms pages. link_low ms pages
