use Rattle.law_simulation.proofs.StmtsLaws as laws
use Rattle.law_simulation.proofs.trees.statement_tree_laws.Goals as goal

pub returns-clause-bodies : goal.returns-clause-bodies
returns-clause-bodies c = laws.bodies

pub returns-clause-stays : goal.returns-clause-stays
returns-clause-stays c = laws.stays
