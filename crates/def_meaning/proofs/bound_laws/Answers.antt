use Rattle.def_meaning.proofs.Ran.{ends_alike, prints_on}
use Rattle.def_meaning.proofs.bound_laws.Goals as goal

pub returns-clause-ends_alike : goal.returns-clause-ends_alike
returns-clause-ends_alike c = ends_alike

pub returns-clause-prints_on : goal.returns-clause-prints_on
returns-clause-prints_on c = prints_on
