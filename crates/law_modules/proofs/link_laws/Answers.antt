use Rattle.law_modules.proofs.Placed.{modules_link}
use Rattle.law_modules.proofs.link_laws.Goals as goal

pub returns : goal.returns
returns c = modules_link
