use Rattle.law_simulation.proofs.TreesLaws as laws
use Rattle.law_simulation.proofs.trees.tree_laws.Goals as goal

pub returns-clause-exprs : goal.returns-clause-exprs
returns-clause-exprs c = laws.exprs

pub returns-clause-procedure_exprs : goal.returns-clause-procedure_exprs
returns-clause-procedure_exprs c = laws.procedure_exprs

pub returns-clause-places : goal.returns-clause-places
returns-clause-places c = laws.places

pub returns-clause-calls : goal.returns-clause-calls
returns-clause-calls c = laws.calls
