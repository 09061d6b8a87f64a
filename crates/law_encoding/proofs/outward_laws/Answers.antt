use Rattle.check_scope.specs.Elaborated.{least, every}
use Rattle.law_encoding.proofs.Bounds.{meanings_near, statements_near, modules_near}
use Rattle.law_encoding.proofs.outward_laws.Goals as goal

pub returns-clause-least : goal.returns-clause-least
returns-clause-least c = (λ s e. meanings_near least s e, λ s a xs. statements_near least s a xs)

pub returns-clause-every : goal.returns-clause-every
returns-clause-every c = (λ s e. meanings_near every s e, λ s a xs. statements_near every s a xs)

pub returns-clause-least_routines : goal.returns-clause-least_routines
returns-clause-least_routines c = λ number m own tables. modules_near least number m own tables

pub returns-clause-every_routines : goal.returns-clause-every_routines
returns-clause-every_routines c = λ number m own tables. modules_near every number m own tables
