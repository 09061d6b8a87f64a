use Rattle.check_scope.specs.Elaborated.{least, every}
use Rattle.law_exchange_exprs.proofs.Given.{looks_given, actuals_given, uses_given, factors_given, terms_given, relations_given}
use Rattle.law_exchange_exprs.proofs.Stepwise.{constant_factor_in_moves, constant_term_in_moves, constant_pick_in_moves, item_in_moves, factor_in_moves, term_in_moves, pick_in_moves, actual_in_moves, use_with_moves, look_in_moves}
use Rattle.law_exchange_exprs.proofs.turn_laws.Goals as goal

pub returns-clause-every_rule : goal.returns-clause-every_rule
returns-clause-every_rule c = (
  looks_given every,
  actuals_given every,
  uses_given every,
  factors_given every,
  terms_given every,
  relations_given every,
)

pub returns-clause-least_rule : goal.returns-clause-least_rule
returns-clause-least_rule c = (
  looks_given least,
  actuals_given least,
  uses_given least,
  factors_given least,
  terms_given least,
  relations_given least,
)

pub returns-clause-constants : goal.returns-clause-constants
returns-clause-constants c =
    (constant_factor_in_moves, constant_term_in_moves, constant_pick_in_moves, item_in_moves)

pub returns-clause-values : goal.returns-clause-values
returns-clause-values c =
    (factor_in_moves, term_in_moves, pick_in_moves, actual_in_moves, use_with_moves, look_in_moves)
