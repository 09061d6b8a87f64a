use Rattle.law_exchange_jobs.proofs.Coming.{made_alone}
use Rattle.law_exchange_jobs.proofs.what_is_made_alone_comes.Goals as goal

pub returns : goal.returns
returns c = made_alone
