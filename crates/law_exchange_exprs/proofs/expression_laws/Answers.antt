use Rattle.check_scope.specs.Elaborated.{least, every}
use Rattle.law_exchange_exprs.proofs.Given.{expressions_given, designators_given, selectors_given, items_given, parts_given, arguments_given}
use Rattle.law_exchange_exprs.proofs.expression_laws.Goals as goal

pub returns-clause-every_rule : goal.returns-clause-every_rule
returns-clause-every_rule c = (
  expressions_given every,
  designators_given every,
  selectors_given every,
  items_given every,
  parts_given every,
  arguments_given every,
)

pub returns-clause-least_rule : goal.returns-clause-least_rule
returns-clause-least_rule c = (
  expressions_given least,
  designators_given least,
  selectors_given least,
  items_given least,
  parts_given least,
  arguments_given least,
)
