use Rattle.law_tokens.proofs.Telling.{told_apart}
use Rattle.law_tokens.proofs.telling_law.Goals as goal

pub returns : goal.returns
returns c = told_apart
