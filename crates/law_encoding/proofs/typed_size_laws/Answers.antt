use Rattle.check_scope.specs.Elaborated.{least, every}
use Rattle.law_encoding.proofs.Bounds.{meanings_small, heads_small, statements_small}
use Rattle.law_encoding.proofs.typed_size_laws.Goals as goal

pub returns-clause-least : goal.returns-clause-least
returns-clause-least c = (
  λ s e. meanings_small least s e,
  λ s d. heads_small least s d,
  λ s a xs. statements_small
      least s a xs,
)

pub returns-clause-every : goal.returns-clause-every
returns-clause-every c = (
  λ s e. meanings_small every s e,
  λ s d. heads_small every s d,
  λ s a xs. statements_small
      every s a xs,
)
