use Rattle.m2c.proofs.Alike.{one_built}
use Rattle.m2c.proofs.laws.outcome_laws.Goals as goal

pub returns : goal.returns
returns c = λ files pages one other built also. one_built files pages one other built also
