use Rattle.law_encoding.proofs.CodeFits.{code_fits}
use Rattle.law_encoding.proofs.EncodedBytes.{code_short}
use Rattle.law_encoding.proofs.FunctionsFit.{bodies_fit, module_has_room}
use Rattle.check_scope.specs.Elaborated.{least, every}
use Rattle.law_encoding.proofs.Bounds.{modules_small}
use Rattle.law_encoding.proofs.Bounded.{bounded}
use Rattle.law_encoding.proofs.BodyModules.{body_has_room}
use Rattle.law_encoding.proofs.FewLocals.{functions_few, accepted_few}
use Rattle.law_encoding.proofs.code_fit_laws.Goals as goal

pub returns-clause-fits : goal.returns-clause-fits
returns-clause-fits c = λ n code h e. code_fits n code h e

pub returns-clause-short : goal.returns-clause-short
returns-clause-short c = λ code e. code_short code e

pub returns-clause-bodies : goal.returns-clause-bodies
returns-clause-bodies c = λ fs h. bodies_fit fs h

pub returns-clause-modules : goal.returns-clause-modules
returns-clause-modules c = λ m h. module_has_room m h

pub returns-clause-locals : goal.returns-clause-locals
returns-clause-locals c = λ m. functions_few m

pub returns-clause-least_locals : goal.returns-clause-least_locals
returns-clause-least_locals c = λ text ts m l h d number own tables. accepted_few
    (bounded least text ts m l h d (modules_small least number m own tables))

pub returns-clause-every_locals : goal.returns-clause-every_locals
returns-clause-every_locals c = λ text ts m l h d number own tables. accepted_few
    (bounded every text ts m l h d (modules_small every number m own tables))

pub returns-clause-body_modules : goal.returns-clause-body_modules
returns-clause-body_modules c = λ m h. body_has_room m h
