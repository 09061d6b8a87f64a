use Rattle.law_linking.proofs.Accepted.{parts_accepted}
use Rattle.law_linking.proofs.parts_are_accepted.Goals as goal

pub returns : goal.returns
returns c = parts_accepted
