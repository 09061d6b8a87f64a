use Rattle.law_encoding.proofs.NestedProcedures.{tree_below}
use Rattle.law_encoding.proofs.procedure_nesting_laws.Goals as goal

pub returns : goal.returns
returns c = λ ts m d. tree_below ts m d
