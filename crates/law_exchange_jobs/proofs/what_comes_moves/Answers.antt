use Rattle.law_exchange_jobs.proofs.Coming.{what_comes}
use Rattle.law_exchange_jobs.proofs.what_comes_moves.Goals as goal

pub returns : goal.returns
returns c = what_comes
