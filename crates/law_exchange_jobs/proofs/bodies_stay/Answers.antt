use Rattle.law_exchange_jobs.proofs.Coming.{bodies}
use Rattle.law_exchange_jobs.proofs.bodies_stay.Goals as goal

pub returns : goal.returns
returns c = bodies
