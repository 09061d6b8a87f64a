use Rattle.m2c.proofs.Graphs.{files_have_outcomes}
use Rattle.m2c.proofs.laws.files_laws.Goals as goal

pub returns : goal.returns
returns c = λ files pages least most. files_have_outcomes files pages least most
