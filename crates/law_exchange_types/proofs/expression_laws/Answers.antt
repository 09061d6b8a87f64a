use Rattle.check_scope.specs.Elaborated.{least}
use Rattle.check_expr.specs.Meanings.{part}
use Rattle.law_exchange_types.proofs.InScope.{looked_up_moves}
use Rattle.law_exchange_types.proofs.Fixed.{constant_moves}
use Rattle.law_exchange_types.proofs.Exprs.{meant_moves, part_moves}
use Rattle.law_exchange_types.proofs.expression_laws.Goals as goal

pub returns : goal.returns
returns c = record {
  names = λ x. looked_up_moves x least;
  constants = λ x s e. constant_moves x least s (part least e) (part_moves x least e);
  expressions = λ x s e. (meant_moves x least e).means s;
}
