use Rattle.check_scope.specs.Elaborated.{least}
use Rattle.law_exchange_types.proofs.Headings.{heading_of_moves}
use Rattle.law_exchange_types.proofs.Types.{type_moves}
use Rattle.law_exchange_types.proofs.Defs.{definitions_move}
use Rattle.law_exchange_types.proofs.definition_laws.Goals as goal

pub returns : goal.returns
returns c = record {
  types = λ x s t. type_moves x least t s;
  headings = λ x. heading_of_moves x least;
  definitions = definitions_move;
}
