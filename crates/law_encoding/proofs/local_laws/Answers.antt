use Rattle.law_encoding.proofs.StepCounts.{body_counts}
use Rattle.law_encoding.proofs.local_laws.Goals as goal

pub returns : goal.returns
returns c = λ numbered xs s d. ((body_counts numbered xs).numbers s d, (body_counts numbered xs).addresses s d)
