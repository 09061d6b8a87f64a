use Rattle.check_scope.specs.Elaborated.{least, every}
use Rattle.law_well_formed.proofs.Basics.{holds_weaker}
use Rattle.law_well_formed.proofs.KnownWalks.{checked_formed}
use Rattle.law_well_formed.proofs.Sizes.{all_fit}
use Rattle.law_well_formed.proofs.types.formed_size_laws.Goals as goal

pub returns-clause-types : goal.returns-clause-types
returns-clause-types c = λ types ordered ranged. all_fit types ordered ranged

pub returns-clause-least : goal.returns-clause-least
returns-clause-least c = λ elaborates types_of number m own tables e o p.
    holds_weaker (λ t k. all_fit t.types k.1 k.0) (checked_formed least elaborates types_of number m own tables e o p)

pub returns-clause-every : goal.returns-clause-every
returns-clause-every c = λ elaborates types_of number m own tables e o p.
    holds_weaker (λ t k. all_fit t.types k.1 k.0) (checked_formed every elaborates types_of number m own tables e o p)
