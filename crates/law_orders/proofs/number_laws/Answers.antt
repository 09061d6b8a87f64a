use Rattle.law_orders.proofs.Renumbered.{runs_are_alike}
use Rattle.law_orders.proofs.number_laws.Goals as goal

pub returns : goal.returns
returns c = runs_are_alike
