use Rattle.law_programs.proofs.Rules.{tree_whole, text_whole}
use Rattle.law_programs.proofs.programs.formed_tree_laws.Goals as goal

pub returns-clause-trees : goal.returns-clause-trees
returns-clause-trees c = tree_whole

pub returns-clause-texts : goal.returns-clause-texts
returns-clause-texts c = text_whole
