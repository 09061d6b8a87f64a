use Rattle.law_encoding.proofs.ListedTypes.{listed_few}
use Rattle.law_encoding.proofs.FewTypes.{types_fit}
use Rattle.law_encoding.proofs.NeededTypes.{needed_few}
use Rattle.law_encoding.proofs.function_type_laws.Goals as goal

pub returns-clause-listed : goal.returns-clause-listed
returns-clause-listed c = λ ss. listed_few ss

pub returns-clause-fit : goal.returns-clause-fit
returns-clause-fit c = λ m h. types_fit m h

pub returns-clause-few : goal.returns-clause-few
returns-clause-few c = λ m p. needed_few m p
