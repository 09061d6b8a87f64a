use Rattle.law_exchange_jobs.proofs.Coming.{alone_comes}
use Rattle.law_exchange_jobs.proofs.what_comes_alone_comes.Goals as goal

pub returns : goal.returns
returns c = alone_comes
