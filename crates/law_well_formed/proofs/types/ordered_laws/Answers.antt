use Rattle.law_well_formed.proofs.Shaped.{tree_shaped, named_known}
use Rattle.law_well_formed.proofs.Whole.{types_whole}
use Rattle.law_well_formed.proofs.types.ordered_laws.Goals as goal

pub returns-clause-trees : goal.returns-clause-trees
returns-clause-trees c = tree_shaped

pub returns-clause-named : goal.returns-clause-named
returns-clause-named c = named_known

pub returns-clause-whole : goal.returns-clause-whole
returns-clause-whole c = types_whole
