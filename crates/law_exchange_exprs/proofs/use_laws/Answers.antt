use Rattle.check_scope.specs.Elaborated.{least, every}
use Rattle.law_exchange_exprs.proofs.Given.{constants_given, values_given, first_names_given, fields_given, calls_given}
use Rattle.law_exchange_exprs.proofs.use_laws.Goals as goal

pub returns-clause-every_rule : goal.returns-clause-every_rule
returns-clause-every_rule c = (
  constants_given every,
  values_given every,
  first_names_given every,
  fields_given every,
  calls_given every,
)

pub returns-clause-least_rule : goal.returns-clause-least_rule
returns-clause-least_rule c = (
  constants_given least,
  values_given least,
  first_names_given least,
  fields_given least,
  calls_given least,
)
