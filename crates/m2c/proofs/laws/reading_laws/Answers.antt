use Rattle.m2c.proofs.Unread.{trees_or_refusals}
use Rattle.m2c.proofs.laws.reading_laws.Goals as goal

pub returns : goal.returns
returns c = λ files. trees_or_refusals files
