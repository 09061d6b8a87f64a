use Rattle.def_meaning.proofs.Alone.{changes_nothing, finds_alone}
use Rattle.def_meaning.proofs.calm_laws.Goals as goal

pub returns-clause-changes_nothing : goal.returns-clause-changes_nothing
returns-clause-changes_nothing c = changes_nothing

pub returns-clause-finds_alone : goal.returns-clause-finds_alone
returns-clause-finds_alone c = finds_alone
