use Rattle.law_exchange_jobs.proofs.Coming.{alone_comes}
use Rattle.law_alone.proofs.Moving.{moves_with_numbers}
use Rattle.law_alone.proofs.what_comes_alone_is_so.Goals as goal

pub returns : goal.returns
returns c = alone_comes moves_with_numbers
